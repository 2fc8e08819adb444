use Rattle.std.proofs.Common.{ℕ, List, [], ◌∷◌, ap, sym, subst, arith}
use Rattle.cfb_chain_io.specs.ChainEffects.{HasDataChain}
use Rattle.cfb_chain_io.proofs.GoingOn.{goes_cause, goes_then}
use Rattle.cfb_mini.specs.NumberWrites.{Enters}
use Rattle.cfb_mini.specs.NextSector.{linked_pair}
use Rattle.cfb_mini.proofs.Entries.{enters_then, enters_wider, one_among}
use Rattle.cfb_mini.proofs.next_sector.link_behind.Goals as goal

pub returns-in-Err-set_number-clause-invariants : goal.returns-in-Err-set_number-clause-invariants
returns-in-Err-set_number-clause-invariants g c = goes_then c.args.allocator.now c.set_number.new.allocator c.set_number-2.new.allocator c.set_number.ensures.invariants c.set_number-2.ensures.invariants

pub returns-in-Err-set_number-clause-cause : goal.returns-in-Err-set_number-clause-cause
returns-in-Err-set_number-clause-cause g c = goes_cause c.args.allocator.now c.set_number.new.allocator c.set_number-2.new.allocator c.in-Err-set_number.error c.set_number.ensures.invariants c.in_default.ensures.not_failed c.in-Err-set_number.ensures.cause

pub returns-clause-enters : goal.returns-clause-enters
returns-clause-enters g c = λ chain.
    let a = c.args.allocator.now in
    let m = c.set_number.new.allocator in
    let b = c.set_number-2.new.allocator in
    let x = c.args.mini_fat.now in
    let y = c.set_number.new.mini_fat in
    let z = c.set_number-2.new.mini_fat in
    let last = c.in-Some.last in
    let taken = c.args.taken in
    let both : List ℕ = last ∷ taken ∷ [] in
    let first = c.in_default.ensures.enters chain in
    let next = c.in_default-set_number.ensures.enters (subst (HasDataChain m) (sym c.set_number.ensures.lies.links) first.chain) in
    subst (λ pair. Enters pair a b x z) (ap (λ l. linked_pair l taken) (sym c.in-Some.is))
    (enters_then both (last ∷ []) a m b x y z (one_among both 0 (omega arith)) c.set_number.ensures.invariants.version c.set_number.ensures.lies
    (enters_wider both (taken ∷ []) a m x y (one_among both 1 (omega arith)) first) next)

pub returns-clause-invariants : goal.returns-clause-invariants
returns-clause-invariants g c = goes_then c.args.allocator.now c.set_number.new.allocator c.set_number-2.new.allocator c.set_number.ensures.invariants c.set_number-2.ensures.invariants
