use Rattle.std.proofs.Common.{◌≡◌, ◌+◌, ◌-◌, ◌*◌, ◌<◌, [], ◌∷◌, ◌++◌, length, ap, sym, subst, ◌∙◌, arith, length-append}
use Rattle.cfb_medium.specs.Versions.{sector_len}
use Rattle.cfb_sectors.specs.Copies.{copies}
use Rattle.cfb_sectors.specs.Initial.{initial}
use Rattle.cfb_sectors.specs.Sectors.{joined}
use Rattle.cfb_sectors.proofs.OneChain.{chain_unique}
use Rattle.cfb_chains.specs.Changes.{AreSubsetOf}
use Rattle.cfb_chains.specs.Grown.{AreSectorsWritable}
use Rattle.cfb_chains.specs.Positions.{sectors_for}
use Rattle.cfb_chains.proofs.Extending.{linked_from, longer_from, whole_sectors}
use Rattle.cfb_fat.specs.Changing.{MayWrite}
use Rattle.cfb_fat.specs.Tables.{bytes_of}
use Rattle.cfb_fat.specs.Keeping.{takes_rest}
use Rattle.cfb_fat.specs.OnlyReads.{all_rest_refl}
use Rattle.cfb_fat.proofs.GrowthSteps.{on_err, on_ok_all}
use Rattle.cfb_fat_runs.specs.Tables.{entries_of}
use Rattle.cfb_fat.proofs.allocator.Allocator.extend_chain_by.Goals as goal

pub returns-in_err-links-clause-some : goal.returns-in_err-links-clause-some
returns-in_err-links-clause-some g c = on_err c.from_residual.result _ ([], [], takes_rest [] c.args.self.now c.args.self.now (all_rest_refl c.args.self.now))

pub returns-then-old-eq0-clause-some : goal.returns-then-old-eq0-clause-some
returns-then-old-eq0-clause-some g c = ([], [], takes_rest [] c.args.self.now c.args.self.now (all_rest_refl c.args.self.now))

pub returns-then-old-eq0-clause-refused_only_if : goal.returns-then-old-eq0-clause-refused_only_if
returns-then-old-eq0-clause-refused_only_if g c = λ refused. (
  λ orderly ids last chain.
      let ours = c.in_ok-links.links.sector_ids.items in
      let one = chain_unique (entries_of c.args.self.now.fat) c.args.start ours (ids ++ last ∷ []) c.in_ok-links.ensures.chain chain in
      omega (arith, ap length one, length-append ids (last ∷ []), ap length c.sector_ids-old.ensures, c.if-old-eq0.true),
  all_rest_refl c.args.self.now,
)

pub returns-in_default-clause-some : goal.returns-in_default-clause-some
returns-in_default-clause-some g c = ([], [], takes_rest [] c.args.self.now c.args.self.now (all_rest_refl c.args.self.now))

pub returns-in_default-checked_mul-clause-some : goal.returns-in_default-checked_mul-clause-some
returns-in_default-checked_mul-clause-some g c = ([], [], takes_rest [] c.args.self.now c.args.self.now (all_rest_refl c.args.self.now))

pub returns-clause-refused_only_if : goal.returns-clause-refused_only_if
returns-clause-refused_only_if g c = λ refused.
    let ours = c.in_ok-links.links.sector_ids.items in
    let some : 0 < length ours = omega (arith, ap length c.sector_ids-old.ensures, c.if-old-eq0.false) in
    let did = c.lengthen_chain.ensures.refused_only_if refused in
    (λ orderly ids last chain. did.0 orderly (linked_from (entries_of c.args.self.now.fat) c.args.start ours some c.in_ok-links.ensures.chain), did.1)

pub returns-clause-extends : goal.returns-clause-extends
returns-clause-extends g c =
    let it = c.args.self.now in
    let now = c.lengthen_chain.new.self in
    let v = it.sectors.version in
    let ids = c.in_ok-links.links.sector_ids.items in
    let all = c.lengthen_chain.new.links.sector_ids.items in
    let did = c.lengthen_chain.ensures in
    let opened = c.in_ok-links.ensures in
    let some : 0 < length ids = omega (arith, ap length c.sector_ids-old.ensures, c.if-old-eq0.false) in
    let len : c.in-Some-checked_mul.len ≡ (length ids + c.args.count) * sector_len v =
    c.in-Some-checked_mul.ensures.1 ∙ ap (λ n. n * c.sector_len.result) (c.in-Some.ensures.1 ∙ ap (λ l. length l + c.args.count) c.sector_ids-old.ensures) ∙ ap (λ n. (length ids + c.args.count) * n) c.sector_len.ensures in
    let wanted : sectors_for c.in_ok-links.links.version c.in-Some-checked_mul.len ≡ length ids + c.args.count =
    ap (λ u. sectors_for u c.in-Some-checked_mul.len) opened.version ∙ ap (sectors_for v) len ∙ whole_sectors v (length ids + c.args.count) in
    let longer = did.longer in
    let more = longer.0 in
    let linked = linked_from (entries_of it.fat) c.args.start ids some opened.chain in
    on_ok_all c.lengthen_chain.result _ _ _ _ did.count did.linked did.filled
    (λ count goes filled.
    let size : length all ≡ length ids + c.args.count = count ∙ wanted in
    let added : length more ≡ c.args.count = let both = ap length longer.2 ∙ length-append ids more in omega (arith, size, both) in (
      ids,
      more,
      longer.1,
      opened.chain,
      longer_from (entries_of it.fat) (entries_of now.fat) c.args.start ids more all some opened.chain longer.2 (goes linked),
      added,
      longer.3,
      subst (λ l. AreSubsetOf l longer.1) longer.2 (longer.4 linked),
      λ honest writable.
          let there = subst (λ u. AreSectorsWritable (MayWrite it) u ids) (sym opened.version) writable in
          let told = subst (λ u. joined u (bytes_of now) all ≡ joined u (bytes_of it) ids ++ copies (length all - length ids) (initial c.args.init (sector_len u))) opened.version (filled honest (sym opened.version) linked there) in
          let fresh : length all - length ids ≡ c.args.count = omega (arith, size) in
          ap (joined v (bytes_of now)) (sym longer.2) ∙ told ∙ ap (λ n. joined v (bytes_of it) ids ++ copies n (initial c.args.init (sector_len v))) fresh,
    ))

pub returns-then-not-is_orderly-clause-some : goal.returns-then-not-is_orderly-clause-some
returns-then-not-is_orderly-clause-some g c = ([], [], takes_rest [] c.args.self.now c.args.self.now (all_rest_refl c.args.self.now))
