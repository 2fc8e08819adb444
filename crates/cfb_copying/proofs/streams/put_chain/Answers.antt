use Rattle.std.proofs.Common.{◌≡◌, ◌+◌, ap, arith, inl, length, sym, subst, ◌∙◌, Err, ⊎_elim}
use Rattle.cfb_medium.specs.Calls.{IsFaultOrInvalidInputIf}
use Rattle.cfb_medium.specs.declared.error.Error.TheVariants.{Full}
use Rattle.cfb_chains.specs.LinkViews.{ids_of}
use Rattle.cfb_fat.specs.Growing.{IsLean}
use Rattle.cfb_fat.specs.Tables.{fat_of}
use Rattle.cfb_chain_io.specs.ChainEffects.{AllocatorRunsOut}
use Rattle.cfb_copying.proofs.PutChains.{chain_put, fault_of, source_has, target_has}
use Rattle.cfb_copying.proofs.streams.put_chain.Goals as goal
use Rattle.cfb_sectors.proofs.OneChain.{chain_unique}

pub returns-in-Err-clause-refused_only_if : goal.returns-in-Err-clause-refused_only_if
returns-in-Err-clause-refused_only_if g c = λ directory mini_fat key own bytes ids can.
    ⊎_elim
    (λ failed. inl (subst (IsFaultOrInvalidInputIf ⊥) (sym failed.0) tt))
    (λ rest. ⊎_elim (λ invalid. absurd (c.in-Err.ensures.none (ap Err invalid) ids can.chain)) (λ memory. inl (subst (IsFaultOrInvalidInputIf ⊥) (sym memory) tt)) rest)
    c.in-Err.ensures.errors

pub returns-in-Err-copy_chain-clause-refused_only_if : goal.returns-in-Err-copy_chain-clause-refused_only_if
returns-in-Err-copy_chain-clause-refused_only_if g c = λ directory mini_fat key own bytes ids can.
    let a = c.args.source.now in
    let from = c.in-Ok.links in
    let opened = c.in-Ok.ensures in
    let made = c.in-Ok-new.ensures.links in
    fault_of c.in-Err-copy_chain.error
    (λ invalid. c.in-Err-copy_chain.ensures.refused_only_if invalid
    (source_has a c.args.start c.args.target.now directory mini_fat key own bytes ids can from opened.chain opened.version)
    (target_has a c.args.start c.args.target.now directory mini_fat key own bytes ids can c.in-Ok-new.links (made.1 ∙ c.new.ensures.items) (made.0 ∙ c.version.ensures ∙ opened.version))
    can.made.orderly)
    c.in-Err-copy_chain.ensures.errors

pub returns-clause-put : goal.returns-clause-put
returns-clause-put g c = λ directory mini_fat key own bytes ids can.
    let a = c.args.source.now in
    let from = c.in-Ok.links in
    let opened = c.in-Ok.ensures in
    let made = c.in-Ok-new.ensures.links in
    let did = c.in_default.ensures in
    chain_put a c.args.start c.args.target.now directory mini_fat key own bytes ids can c.copy_chain.new.target from c.in-Ok-new.links c.copy_chain.new.to opened.chain (made.1 ∙ c.new.ensures.items) did.invariants did.not_failed
    (did.copied (source_has a c.args.start c.args.target.now directory mini_fat key own bytes ids can from opened.chain opened.version)
    (target_has a c.args.start c.args.target.now directory mini_fat key own bytes ids can c.in-Ok-new.links (made.1 ∙ c.new.ensures.items) (made.0 ∙ c.version.ensures ∙ opened.version)))

pub returns-in-Err-copy_chain-clause-stopped : goal.returns-in-Err-copy_chain-clause-stopped
returns-in-Err-copy_chain-clause-stopped g c = λ full ids chain.
    let a = c.args.source.now in
    let b = c.args.target.now in
    let from = ids_of c.in-Ok.links in
    let error : c.in-Err-copy_chain.error ≡ Full = cc in
    let none : length (ids_of c.in-Ok-new.links) ≡ 0 = ap length (c.in-Ok-new.ensures.links.1 ∙ c.new.ensures.items) in
    let same = chain_unique (fat_of a) c.args.start from ids c.in-Ok.ensures.chain chain in
    subst (λ l. AllocatorRunsOut {g = g.T.ReadMedium} 0 (length l) b) same (subst (λ n. AllocatorRunsOut {g = g.T.ReadMedium} n (length from) b) none (c.in-Err-copy_chain.ensures.stopped (ap Err error)))

pub returns-clause-lean : goal.returns-clause-lean
returns-clause-lean g c = λ ids chain others lean.
    let a = c.args.source.now in
    let b = c.args.target.now in
    let d = c.copy_chain.new.target in
    let from = ids_of c.in-Ok.links in
    let none : length (ids_of c.in-Ok-new.links) ≡ 0 = ap length (c.in-Ok-new.ensures.links.1 ∙ c.new.ensures.items) in
    let same = chain_unique (fat_of a) c.args.start from ids c.in-Ok.ensures.chain chain in
    let zero : others + length (ids_of c.in-Ok-new.links) ≡ others = omega (arith, none) in
    subst (λ l. IsLean {g = g.T.ReadMedium} d (others + length l)) same (c.in_default.ensures.lean (omega (arith, none)) others (subst (IsLean {g = g.T.ReadMedium} b) (sym zero) lean))
