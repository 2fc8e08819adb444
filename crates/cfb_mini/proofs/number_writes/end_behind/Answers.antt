use Rattle.std.proofs.Common.{◌≡◌, ◌∙◌, ◌-◌, ◌<◌, false, true, inl, [], ◌∷◌, ap, arith, drop, get_or, length, set, subst, suc, sym, take}
use Rattle.cfb_sectors.specs.Sectors.{end_of_chain, free}
use Rattle.cfb_chains.specs.Changes.{AreSubsetOf, DifferOnlyAt, HaveEntry}
use Rattle.cfb_chains.specs.Grown.{IsChainInTable}
use Rattle.cfb_chain_io.specs.ChainEffects.{HasDataChain}
use Rattle.cfb_chain_io.proofs.GoingOn.{goes_cause, goes_then}
use Rattle.cfb_mini.specs.NumberWrites.{Enters}
use Rattle.cfb_mini.specs.LinkViews.{minis_of}
use Rattle.cfb_mini.specs.NumberViews.{numbers_of}
use Rattle.cfb_mini.proofs.Cutting.{among_rest, ended_front, rest_of}
use Rattle.cfb_mini.proofs.Entries.{enters_then, enters_wider, one_among}
use Rattle.cfb_mini.proofs.number_writes.end_behind.Goals as goal

pub returns-clause-invariants : goal.returns-clause-invariants
returns-clause-invariants g c = goes_then c.args.allocator.now c.set_number.new.allocator c.set_numbers.new.allocator c.set_number.ensures.invariants c.set_numbers.ensures.invariants

pub returns-in-Err-set_numbers-clause-invariants : goal.returns-in-Err-set_numbers-clause-invariants
returns-in-Err-set_numbers-clause-invariants g c =
    goes_then c.args.allocator.now c.set_number.new.allocator c.set_numbers.new.allocator c.set_number.ensures.invariants c.set_numbers.ensures.invariants

pub returns-in-Err-set_numbers-clause-error_contract : goal.returns-in-Err-set_numbers-clause-error_contract
returns-in-Err-set_numbers-clause-error_contract g c =
    let told = c.in-Err-set_numbers.ensures in
    record {
      live = tt;
      failed = λ had. let never : false ≡ true = sym c.requires.live ∙ had in absurd (cc);
      after = inl told.when_failed;
      cause = goes_cause c.args.allocator.now c.set_number.new.allocator c.set_numbers.new.allocator c.in-Err-set_numbers.error c.set_number.ensures.invariants c.in_default.ensures.not_failed told.cause;
      fault = told.errors;
    }

pub returns-clause-cuts : goal.returns-clause-cuts
returns-clause-cuts g c = λ chain.
    let a = c.args.allocator.now in
    let mid = c.set_number.new.allocator in
    let b = c.set_numbers.new.allocator in
    let x = c.args.mini_fat.now in
    let y = c.set_number.new.mini_fat in
    let z = c.set_numbers.new.mini_fat in
    let minis = minis_of c.args.links.now in
    let count = c.args.count in
    let m = count - 1 in
    let size : suc m ≡ count = omega (arith, c.requires.some) in
    let last = get_or c.mini_sector_ids.result.now m 0 in
    let is : last ≡ get_or minis m 0 = ap (λ l. get_or l m 0) c.mini_sector_ids.ensures in
    let inside : m < length minis = omega (arith, c.requires.some, c.requires.fewer) in
    let first = c.in_default.ensures.enters chain in
    let rest_is = rest_of c.mini_sector_ids-2.result.now minis count c.mini_sector_ids-2.ensures in
    let next : Enters (drop count minis) mid b y z = subst (λ l. Enters l mid b y z) rest_is (c.in_default-set_numbers.ensures.enters (subst (HasDataChain mid) (sym c.set_number.ensures.lies.links) first.chain)) in
    let mine : AreSubsetOf minis (last ∷ []) = subst (λ n. AreSubsetOf minis (n ∷ [])) (sym is) (one_among minis m inside) in
    let differ : DifferOnlyAt (drop (suc m) minis) (set (numbers_of x.numbers) last end_of_chain) (numbers_of z.numbers) =
    subst (λ k. DifferOnlyAt (drop k minis) (set (numbers_of x.numbers) last end_of_chain) (numbers_of z.numbers)) (sym size) (subst (λ l. DifferOnlyAt (drop count minis) l (numbers_of z.numbers)) c.in_default.ensures.set next.differ) in
    record {
      enters = enters_then minis (drop count minis) a mid b x y z (among_rest minis count) c.set_number.ensures.invariants.version c.set_number.ensures.lies (enters_wider minis (last ∷ []) a mid x y mine first) next;
      minis_are = c.truncate.ensures;
      freed = subst (HaveEntry free (numbers_of z.numbers)) rest_is c.in_default-set_numbers.ensures.set;
      linked = λ linked. subst (IsChainInTable (numbers_of z.numbers)) (sym c.truncate.ensures) (subst (λ k. IsChainInTable (numbers_of z.numbers) (take k minis)) size
          (ended_front (numbers_of x.numbers) (numbers_of z.numbers) minis m last (omega (arith, inside)) is (subst (λ n. n < length (numbers_of x.numbers)) (sym is) (c.requires.there m inside)) differ linked));
    }
