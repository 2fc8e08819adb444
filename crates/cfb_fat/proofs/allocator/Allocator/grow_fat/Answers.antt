use Rattle.std.proofs.Common.{◌≡◌, ℕ, ◌+◌, ◌*◌, ◌/◌, ◌<◌, ◌≤◌, [], ◌∷◌, ◌++◌, length, take, refl, ap, sym, subst, ◌∙◌, arith, append_assoc, length-append, IsTrue}
use Rattle.std.specs.Prelude.{slice_index}
use mathlib.Core.Logic.{∥∥₁_map}
use Rattle.cfb_medium.specs.Versions.{sector_len}
use Rattle.cfb_sectors.specs.Held.{bytes_of, count_of, version_of}
use Rattle.cfb_sectors.specs.Sectors.{fat_in, free}
use Rattle.cfb_fat.specs.Growing.{Appends, IsBesideDifat}
use Rattle.cfb_fat.specs.Listed.{Lists}
use Rattle.cfb_chains.specs.Changes.{IsBeside, IsNotIn}
use Rattle.cfb_fat.specs.Orderly.{AreTablesConsistent}
use Rattle.cfb_fat.proofs.EndsKept.{ends_listed, named_in}
use Rattle.cfb_fat.proofs.ListsNow.{lists_now}
use Rattle.cfb_fat.proofs.Grown.{order_grown, same_grown, there_grown, whole_grown, Lengthens}
use Rattle.cfb_fat.proofs.Lean.{lean_longer}
use Rattle.cfb_fat.specs.Keeping.{lean_same}
use Rattle.cfb_fat.proofs.Growth.{beside_more, once_few, once_front, stays_in_front}
use Rattle.cfb_fat.proofs.Sparing.{places_after}
use Rattle.cfb_fat.specs.Rising.{AreRead}
use Rattle.cfb_fat.proofs.Rising.{read_more}
use Rattle.cfb_fat.proofs.Packed.{behind_one, not_none, packed_more}
use Rattle.cfb_chains.proofs.Beside.{beside_first, none_first}
use Rattle.cfb_fat.proofs.allocator.Allocator.grow_fat.Given.{Over}
use Rattle.cfb_fat_runs.specs.Tables.{entries_of}
use Rattle.cfb_fat.proofs.allocator.Allocator.grow_fat.Goals as goal

lengthens : (g : Over) (c : goal.After-push_reserved-2 g) → Lengthens {g = g.F.ReadMedium} c.args.self.now.sectors c.add_fat_sector.new.sectors (entries_of c.args.self.now.fat) c.args.self.now.fat_sectors.items c.args.self.now.difat_sectors.items 1
lengthens g c =
    let it = c.args.self.now in
    let did = c.in_ok-sector_id.ensures in
    let order = it.orderly c.requires.orderly in
    record {
      appends = subst (λ l. Appends (IsBesideDifat it.sectors l) it.sectors c.add_fat_sector.new.sectors) c.deref.ensures.value did.appends;
      content = did.content;
      once = order.once;
      below_ds = order.there;
      below_fs = it.there c.requires.live;
      full = c.requires.full;
      before = λ honest. (count_of it.sectors, it.same c.requires.live honest, order.covered);
      sum = omega (arith, order.covered);
      few = omega arith;
      room = c.requires.room;
      some = omega arith;
    }

is_fs : (g : Over) (c : goal.After-push_reserved-2 g) → c.args.self.now.fat_sectors.items ++ count_of c.args.self.now.sectors ∷ [] ≡ c.push_reserved.new.self.items
is_fs g c = sym (c.push_reserved.ensures.items ∙ ap (λ n. c.args.self.now.fat_sectors.items ++ n ∷ []) c.in_ok-sector_id.ensures.number)

is_fat : (g : Over) (c : goal.After-push_reserved-2 g) → (entries_of c.args.self.now.fat) ++ free ∷ [] ≡ (entries_of c.push_reserved-2.new.self)
is_fat g c = sym c.push_reserved-2.ensures.entries

pub invariant_of-self-2 : goal.invariant_of-self-2
invariant_of-self-2 g c =
    let it = c.args.self.now in
    let a = it.sectors in
    let b = c.add_fat_sector.new.sectors in
    let did = c.in_ok-sector_id.ensures in
    let h = lengthens g c in
    let fat = (entries_of it.fat) ++ free ∷ [] in
    let fs = it.fat_sectors.items ++ count_of a ∷ [] in
    let ds = it.difat_sectors.items in
    let has_fs : fs ≡ c.push_reserved.new.self.items = is_fs g c in
    let has_fat : fat ≡ (entries_of c.push_reserved-2.new.self) = is_fat g c in
    let order : AreTablesConsistent (version_of b) (count_of b) (entries_of c.push_reserved-2.new.self) c.push_reserved.new.self.items ds =
    subst (λ l. AreTablesConsistent (version_of b) (count_of b) l c.push_reserved.new.self.items ds) has_fat
    (subst (λ l. AreTablesConsistent (version_of b) (count_of b) fat l ds) has_fs (order_grown a b (entries_of it.fat) it.fat_sectors.items ds 1 h did.error_contract.live)) in
    record {
      same = λ live honest. sym has_fat ∙ same_grown a b (entries_of it.fat) it.fat_sectors.items ds 1 h live (subst IsTrue did.appends.honest honest)
          ∙ ap (λ l. take (count_of b) (fat_in (version_of b) (bytes_of b) l)) has_fs;
      there = λ live. subst (λ l. (k : ℕ) → k < length l → slice_index l k < count_of b) has_fs (there_grown a b (entries_of it.fat) it.fat_sectors.items ds 1 h live);
      inside = λ live. omega (arith, order.covered);
      whole = subst (λ l. length l ≤ length c.push_reserved.new.self.items * (sector_len (version_of b) / 4)) has_fat
          (subst (λ l. length fat ≤ length l * (sector_len (version_of b) / 4)) has_fs (whole_grown a b (entries_of it.fat) it.fat_sectors.items ds 1 h did.error_contract.live));
      packed = packed_more (entries_of it.fat) (free ∷ []) (entries_of c.push_reserved-2.new.self) ds it.fat_sectors.items ds c.push_reserved.new.self.items it.first_free (sym has_fat) it.packed (λ n none. none)
          (λ n none. none_first it.fat_sectors.items (count_of a ∷ []) n (subst (λ l. IsNotIn l n) (sym has_fs) none))
          (λ k past is no_ds no_fs.
          let here = (behind_one (entries_of it.fat) (entries_of c.push_reserved-2.new.self) free k (sym has_fat) past is).0 ∙ (it.orderly c.requires.orderly).covered in
          not_none it.fat_sectors.items (count_of a) (subst (IsNotIn (it.fat_sectors.items ++ count_of a ∷ [])) here (subst (λ l. IsNotIn l k) (sym has_fs) no_fs)));
      orderly = λ now. order;
      read_difat = it.read_difat;
      read_fat = subst (AreRead it.read.ids.items it.read.num_fat) has_fs (read_more it.read.ids.items it.fat_sectors.items it.read.num_fat (count_of a) it.read_fat (it.there c.requires.live));
      read_alone = λ n no_ds no_fs. it.read_alone n no_ds (none_first it.fat_sectors.items (count_of a ∷ []) n (subst (λ l. IsNotIn l n) (sym has_fs) no_fs));
      listed = λ live honest.
          let was = subst IsTrue did.appends.honest honest in
          let had = (it.listed c.requires.live was).0 c.requires.orderly in (
            λ now. (
              order,
              ∥∥₁_map had.1 (λ listed. subst (λ l. Lists (version_of b) (bytes_of b) ds l) has_fs (subst (λ v. Lists v (bytes_of b) ds fs) (sym did.appends.version)
                  (named_in (version_of a) (bytes_of a) (bytes_of b) _ ds it.fat_sectors.items (count_of a) _ c.deref.ensures.value (did.listed live was) (once_front ds it.fat_sectors.items h.once) (omega (arith, c.len.ensures, it.fat_sectors.ok.0)) listed).0)),
            ),
            λ has. refl,
          );
    }

pub returns-clause-grows : goal.returns-clause-grows
returns-clause-grows g c =
    let it = c.args.self.now in
    let did = c.in_ok-sector_id.ensures in
    let appends = subst (λ l. Appends (IsBesideDifat it.sectors l) it.sectors c.add_fat_sector.new.sectors) c.deref.ensures.value did.appends in
    let v = version_of it.sectors in
    let ds = it.difat_sectors.items in
    let fs = it.fat_sectors.items in
    let has_fs : fs ++ count_of it.sectors ∷ [] ≡ c.push_reserved.new.self.items = sym (c.push_reserved.ensures.items ∙ ap (λ n. fs ++ n ∷ []) did.number) in
    record {
      honest = did.appends.honest;
      continues = did.appends.continues;
      version = did.appends.version;
      live = λ live. c.requires.live;
      count = λ live. let more = did.appends.count live in omega (arith, more);
      orderly = λ live. sym c.requires.orderly;
      fat = λ live. stays_in_front [] (entries_of it.fat) (free ∷ []) (entries_of c.push_reserved-2.new.self) c.push_reserved-2.ensures.entries;
      still = λ live n. ((λ none. none), (λ none. none_first fs (count_of it.sectors ∷ []) n (subst (λ l. IsNotIn l n) (sym has_fs) none)));
      longer = appends.longer;
      lean = λ live content lean.
          let old = length (entries_of it.fat) in
          let size = c.push_reserved-2.ensures.entries in
          lean_same v _ (old + 1) (length fs + 1) (length ds) content _ _ _ _ did.appends.version (ap length size ∙ length-append (entries_of it.fat) (free ∷ [])) (ap length (sym has_fs) ∙ length-append fs (count_of it.sectors ∷ [])) refl (omega arith)
          (lean_longer v old (length fs) (length ds) content (old + 1) (length ds) c.requires.full (omega arith) (λ d below. let less = lean.difat d below in omega (arith, less)) lean);
      told = λ live honest any.
          let size = ap length has_fs in
          let long = length-append fs (count_of it.sectors ∷ []) in
          let same : c.len.result + 1 ≡ length c.push_reserved.new.self.items = omega (arith, size, long, c.len.ensures, it.fat_sectors.ok.0) in
          let told = did.answer live honest in
          record { difat_count = told.1 ∙ ap length c.deref.ensures.value; fat_count = told.0 ∙ same };
      ends = λ live honest orderly.
          let had = lists_now v (bytes_of it.sectors) ds fs ((it.listed c.requires.live honest).0 orderly).1 in
          let has = named_in v (bytes_of it.sectors) (bytes_of c.add_fat_sector.new.sectors) _ ds fs (count_of it.sectors) _ c.deref.ensures.value (did.listed live honest)
          (once_front ds fs (it.orderly orderly).once) (omega (arith, c.len.ensures, it.fat_sectors.ok.0)) had in
          ends_listed v _ (bytes_of it.sectors) (bytes_of c.add_fat_sector.new.sectors) ds fs (fs ++ count_of it.sectors ∷ []) did.appends.version had has.0 has.1 (did.appends.whole live honest);
      tables = λ live p n fits apart. subst (λ l. IsBeside v (ds ++ l) p n) (sym (c.push_reserved.ensures.items ∙ ap (λ n. fs ++ n ∷ []) did.number))
          (subst (λ l. IsBeside v l p n) (append_assoc ds fs (count_of it.sectors ∷ [])) (beside_more v (ds ++ fs) p n (count_of it.sectors) (count_of it.sectors) apart fits (omega arith)));
      beside = λ live honest p n fits apart words taken. appends.before live honest p n fits (beside_first v ds fs p n apart, words);
    }

pub add_fat_sector-requires-clause-fewer : goal.add_fat_sector-requires-clause-fewer
add_fat_sector-requires-clause-fewer g c =
    let it = c.args.self.now in
    let order = it.orderly c.requires.orderly in
    subst (λ l. length l ≤ count_of it.sectors) (sym c.deref.ensures.value) (once_few (count_of it.sectors) it.difat_sectors.items (once_front it.difat_sectors.items it.fat_sectors.items order.once) order.there)

pub returns-clause-spends : goal.returns-clause-spends
returns-clause-spends g c = λ n had.
    let it = c.args.self.now in
    let did = c.in_ok-sector_id.ensures in
    let v = version_of it.sectors in
    let fs = it.fat_sectors.items in
    let long_fs : length c.push_reserved.new.self.items ≡ length fs + 1 = ap length c.push_reserved.ensures.items ∙ length-append fs (c.in_ok-sector_id.sector_id ∷ []) in
    let long : length (entries_of c.push_reserved-2.new.self) ≡ length (entries_of it.fat) + 1 = ap length c.push_reserved-2.ensures.entries ∙ length-append (entries_of it.fat) (free ∷ []) in
    let none = places_after v (version_of c.add_fat_sector.new.sectors) (length fs) (length (entries_of it.fat)) 1 (length c.push_reserved.new.self.items) (length (entries_of c.push_reserved-2.new.self)) did.appends.version c.requires.full long_fs long (omega arith) in
    let before : length (entries_of it.fat) ≡ length fs * (sector_len v / 4) = c.requires.full in
    record {
      fat = let p = had.fat in omega (arith, p, none, before, c.push_reserved-2.ensures.runs, c.push_reserved-2.ensures.capacity);
      fat_sectors = let p = had.fat_sectors in omega (arith, p, long_fs, c.push_reserved.ensures.capacity);
      difat_sectors = let p = had.difat_sectors in omega (arith, p);
    }
