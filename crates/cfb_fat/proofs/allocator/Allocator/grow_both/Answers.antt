use Rattle.std.proofs.Common.{◌≡◌, ℕ, ◌+◌, ◌-◌, ◌*◌, ◌/◌, ◌<◌, ◌≤◌, [], ◌∷◌, ◌++◌, length, take, replicate, refl, ap, sym, subst, ◌∙◌, arith, append_assoc, length-append, ⊎_elim, IsTrue}
use Rattle.std.specs.Prelude.{slice_index}
use mathlib.Core.Logic.{∥∥₁_map}
use Rattle.cfb_medium.specs.Versions.{sector_len}
use Rattle.cfb_sectors.specs.Held.{bytes_of, count_of, version_of}
use Rattle.cfb_sectors.specs.Sectors.{fat_in, free, sector_start}
use Rattle.cfb_fat.specs.Growing.{Appends, IsBesideDifat}
use Rattle.cfb_fat.specs.Listed.{EndsAsStrict, Lists}
use Rattle.cfb_chains.specs.Changes.{IsBeside, IsNotIn}
use Rattle.cfb_fat.specs.Orderly.{AreBelow, AreTablesConsistent}
use Rattle.cfb_fat.proofs.FatEntries.{per}
use Rattle.cfb_fat.proofs.EndsKept.{both_in, ends_at}
use Rattle.cfb_fat.proofs.ListsNow.{lists_now}
use Rattle.cfb_fat.proofs.Grown.{order_grown, same_grown, there_grown, whole_grown, Lengthens}
use Rattle.cfb_chains.proofs.Beside.{beside_both, beside_first, beside_second, none_first, start_later}
use Rattle.std.proofs.lemmas.Bool.Decides.{eqb_tells}
use Rattle.cfb_fat.proofs.Lean.{lean_longer}
use Rattle.cfb_fat.specs.Keeping.{lean_same}
use Rattle.cfb_fat.proofs.Growth.{below_both, below_more, below_one_more, beside_more, fat_same, fat_sectors_stay, once_few, once_front, once_middle, room_more, stays_in_front}
use Rattle.cfb_fat.proofs.Sparing.{places_after}
use Rattle.cfb_fat.specs.Rising.{AreRead}
use Rattle.cfb_fat.proofs.Rising.{read_more}
use Rattle.cfb_fat.proofs.Packed.{behind_two, not_none, packed_more}
use Rattle.cfb_fat.proofs.Places.{passed_attempts}
use Rattle.cfb_fat.proofs.allocator.Allocator.grow_both.Given.{Over}
use Rattle.cfb_fat_runs.specs.Tables.{entries_of}
use Rattle.cfb_fat.proofs.allocator.Allocator.grow_both.Goals as goal

pub add_fat_sector-requires-clause-fewer : goal.add_fat_sector-requires-clause-fewer
add_fat_sector-requires-clause-fewer g c =
    let it = c.args.self.now in
    let order = it.orderly c.requires.orderly in
    let did = c.in_ok-difat_sector.ensures in
    let ds = it.difat_sectors.items in
    let few = once_few (count_of it.sectors) ds (once_front ds it.fat_sectors.items order.once) order.there in
    let size = ap length (c.deref-2.ensures.value ∙ c.push_reserved.ensures.items) ∙ length-append ds (c.in_ok-difat_sector.difat_sector ∷ []) in
    let more = did.appends.count did.not_failed in
    omega (arith, few, size, more)

pub add_fat_sector-requires-clause-there : goal.add_fat_sector-requires-clause-there
add_fat_sector-requires-clause-there g c =
    let it = c.args.self.now in
    let order = it.orderly c.requires.orderly in
    let did = c.in_ok-difat_sector.ensures in
    let more = did.appends.count did.not_failed in
    subst (AreBelow (count_of c.add_difat_sector.new.sectors))
    (sym (c.deref-2.ensures.value ∙ c.push_reserved.ensures.items ∙ ap (λ n. it.difat_sectors.items ++ n ∷ []) did.number))
    (below_one_more (count_of it.sectors) (count_of c.add_difat_sector.new.sectors) it.difat_sectors.items (omega (arith, more)) order.there)

pub returns-in_err-fat_sector-clause-error_contract : goal.returns-in_err-fat_sector-clause-error_contract
returns-in_err-fat_sector-clause-error_contract g c =
    let it = c.args.self.now in
    let did = c.in_ok-difat_sector.ensures in
    let then = c.in_err-fat_sector.ensures.error_contract in
    passed_attempts c.from_residual-in_err-fat_sector.result c.in_err-fat_sector.field-0.0 it.sectors c.add_difat_sector.new.sectors c.add_fat_sector.new.sectors c.from_residual-in_err-fat_sector.ensures.1
    did.appends.continues (did.not_failed ∙ sym c.requires.live) then.err then.cause then.fault

-- what was appended
pub record Both (g : Over) (c : goal.After-push_reserved-4 g) : Type 0 where
  pub is_ds : c.args.self.now.difat_sectors.items ++ count_of c.args.self.now.sectors ∷ [] ≡ c.push_reserved.new.self.items
  pub is_fs : c.args.self.now.fat_sectors.items ++ count_of c.add_difat_sector.new.sectors ∷ [] ≡ c.push_reserved-2.new.self.items
  pub is_fat : (entries_of c.args.self.now.fat) ++ replicate 2 free ≡ (entries_of c.push_reserved-4.new.self)
  pub first : Appends (IsBesideDifat {g = g.F.ReadMedium} c.args.self.now.sectors c.args.self.now.difat_sectors.items) c.args.self.now.sectors c.add_difat_sector.new.sectors
  pub second : Lengthens {g = g.F.ReadMedium} c.add_difat_sector.new.sectors c.add_fat_sector.new.sectors (entries_of c.args.self.now.fat) c.args.self.now.fat_sectors.items (c.args.self.now.difat_sectors.items ++ count_of c.args.self.now.sectors ∷ []) 2

both : (g : Over) (c : goal.After-push_reserved-4 g) → Both g c
both g c =
    let it = c.args.self.now in
    let a = it.sectors in
    let m = c.add_difat_sector.new.sectors in
    let b = c.add_fat_sector.new.sectors in
    let v = version_of a in
    let ds = it.difat_sectors.items in
    let fs = it.fat_sectors.items in
    let did = c.in_ok-difat_sector.ensures in
    let then = c.in_ok-fat_sector.ensures in
    let order = it.orderly c.requires.orderly in
    let is_ds : ds ++ count_of a ∷ [] ≡ c.push_reserved.new.self.items = sym (c.push_reserved.ensures.items ∙ ap (λ n. ds ++ n ∷ []) did.number) in
    let first = subst (λ l. Appends (IsBesideDifat a l) a m) c.deref.ensures.value did.appends in
    let more = first.count did.not_failed in
    let below_fs = it.there c.requires.live in
    record {
      is_ds = is_ds;
      is_fs = sym (c.push_reserved-2.ensures.items ∙ ap (λ n. fs ++ n ∷ []) then.number);
      is_fat = sym (c.push_reserved-4.ensures.entries ∙ ap (λ l. l ++ free ∷ []) c.push_reserved-3.ensures.entries ∙ append_assoc (entries_of it.fat) (free ∷ []) (free ∷ []));
      first = first;
      second = record {
        appends = subst (λ l. Appends (IsBesideDifat m l) m b) (c.deref-2.ensures.value ∙ sym is_ds) then.appends;
        content = then.content;
        once = once_middle ds fs (count_of a) order.once (below_both (count_of a) ds fs order.there below_fs);
        below_ds = below_one_more (count_of a) (count_of m) ds (omega (arith, more)) order.there;
        below_fs = below_more (count_of a) (count_of m) fs (omega (arith, more)) below_fs;
        full = subst (λ u. length (entries_of it.fat) ≡ length fs * per u) (sym first.version) c.requires.full;
        before = λ honest.
            let was = subst IsTrue first.honest honest in
            let kept = fat_sectors_stay v (bytes_of a) (bytes_of m) ds fs (count_of a) order.once below_fs (λ p n fits aside. first.before did.not_failed was p n fits aside) in
            (count_of a, it.same c.requires.live was ∙ ap (take (count_of a)) (sym (fat_same v (bytes_of a) (bytes_of m) fs kept)) ∙ ap (λ u. take (count_of a) (fat_in u (bytes_of m) fs)) (sym first.version), order.covered);
        sum = omega (arith, more, order.covered);
        few = omega arith;
        room = room_more (version_of m) (length fs) (length ds) (length (ds ++ count_of a ∷ [])) (length-append ds (count_of a ∷ [])) (subst (λ u. length fs ≤ 109 + length ds * (per u - 1)) (sym first.version) order.named);
        some = omega arith;
      };
    }

pub invariant_of-self-2 : goal.invariant_of-self-2
invariant_of-self-2 g c =
    let it = c.args.self.now in
    let a = it.sectors in
    let m = c.add_difat_sector.new.sectors in
    let b = c.add_fat_sector.new.sectors in
    let did = c.in_ok-difat_sector.ensures in
    let then = c.in_ok-fat_sector.ensures in
    let all = both g c in
    let h = all.second in
    let fat = (entries_of it.fat) ++ replicate 2 free in
    let ds = it.difat_sectors.items ++ count_of a ∷ [] in
    let fs = it.fat_sectors.items ++ count_of m ∷ [] in
    let new_ds = c.push_reserved.new.self.items in
    let new_fs = c.push_reserved-2.new.self.items in
    let order : AreTablesConsistent (version_of b) (count_of b) (entries_of c.push_reserved-4.new.self) new_fs new_ds =
    subst (λ l. AreTablesConsistent (version_of b) (count_of b) (entries_of c.push_reserved-4.new.self) new_fs l) all.is_ds (subst (λ l. AreTablesConsistent (version_of b) (count_of b) l new_fs ds) all.is_fat
    (subst (λ l. AreTablesConsistent (version_of b) (count_of b) fat l ds) all.is_fs (order_grown m b (entries_of it.fat) it.fat_sectors.items ds 2 h then.error_contract.live))) in
    record {
      same = λ live honest. sym all.is_fat ∙ same_grown m b (entries_of it.fat) it.fat_sectors.items ds 2 h live (subst IsTrue h.appends.honest honest)
          ∙ ap (λ l. take (count_of b) (fat_in (version_of b) (bytes_of b) l)) all.is_fs;
      there = λ live. subst (λ l. (k : ℕ) → k < length l → slice_index l k < count_of b) all.is_fs (there_grown m b (entries_of it.fat) it.fat_sectors.items ds 2 h live);
      inside = λ live. omega (arith, order.covered);
      whole = subst (λ l. length l ≤ length new_fs * (sector_len (version_of b) / 4)) all.is_fat
          (subst (λ l. length fat ≤ length l * (sector_len (version_of b) / 4)) all.is_fs (whole_grown m b (entries_of it.fat) it.fat_sectors.items ds 2 h then.error_contract.live));
      packed = packed_more (entries_of it.fat) (free ∷ free ∷ []) (entries_of c.push_reserved-4.new.self) it.difat_sectors.items it.fat_sectors.items new_ds new_fs it.first_free (sym all.is_fat) it.packed
          (λ n none. none_first it.difat_sectors.items (count_of a ∷ []) n (subst (λ l. IsNotIn l n) (sym all.is_ds) none))
          (λ n none. none_first it.fat_sectors.items (count_of m ∷ []) n (subst (λ l. IsNotIn l n) (sym all.is_fs) none))
          (λ k past is no_ds no_fs.
          let covered = (it.orderly c.requires.orderly).covered in
          let more = all.first.count did.not_failed in
          ⊎_elim
          (λ here. not_none it.difat_sectors.items (count_of a) (subst (IsNotIn ds) (here ∙ covered) (subst (λ l. IsNotIn l k) (sym all.is_ds) no_ds)))
          (λ there. let at : k ≡ count_of m = omega (arith, there, covered, more) in not_none it.fat_sectors.items (count_of m) (subst (IsNotIn fs) at (subst (λ l. IsNotIn l k) (sym all.is_fs) no_fs)))
          (behind_two (entries_of it.fat) (entries_of c.push_reserved-4.new.self) free free k (sym all.is_fat) past is));
      orderly = λ now. order;
      read_difat = subst (AreRead it.read.ids.items it.read.num_difat) all.is_ds (read_more it.read.ids.items it.difat_sectors.items it.read.num_difat (count_of a) it.read_difat (it.orderly c.requires.orderly).there);
      read_fat = subst (AreRead it.read.ids.items it.read.num_fat) all.is_fs (read_more it.read.ids.items it.fat_sectors.items it.read.num_fat (count_of m) it.read_fat h.below_fs);
      read_alone = λ n no_ds no_fs. it.read_alone n (none_first it.difat_sectors.items (count_of a ∷ []) n (subst (λ l. IsNotIn l n) (sym all.is_ds) no_ds))
          (none_first it.fat_sectors.items (count_of m ∷ []) n (subst (λ l. IsNotIn l n) (sym all.is_fs) no_fs));
      listed = λ live honest.
          let mid = subst IsTrue h.appends.honest honest in
          let was = subst IsTrue all.first.honest mid in
          let had = (it.listed c.requires.live was).0 c.requires.orderly in
          let named = both_in (version_of a) (version_of m) (bytes_of a) (bytes_of m) (bytes_of b) _ _ it.difat_sectors.items it.fat_sectors.items (count_of a) (count_of m) _ all.first.version c.deref.ensures.value (c.deref-2.ensures.value ∙ sym all.is_ds)
          (did.listed did.not_failed was) (then.listed live mid) (once_front it.difat_sectors.items it.fat_sectors.items (it.orderly c.requires.orderly).once) (once_front ds it.fat_sectors.items h.once) (omega (arith, c.len.ensures, it.fat_sectors.ok.0)) in (
            λ now. (
              order,
              ∥∥₁_map had.1 (λ listed.
                  subst (λ l. Lists (version_of b) (bytes_of b) l new_fs) all.is_ds (subst (λ l. Lists (version_of b) (bytes_of b) ds l) all.is_fs (subst (λ v. Lists v (bytes_of b) ds fs) (sym h.appends.version) (named listed).0))),
            ),
            λ has. refl,
          );
    }

pub returns-clause-grows : goal.returns-clause-grows
returns-clause-grows g c =
    let it = c.args.self.now in
    let a = it.sectors in
    let m = c.add_difat_sector.new.sectors in
    let v = version_of a in
    let did = c.in_ok-difat_sector.ensures in
    let then = c.in_ok-fat_sector.ensures in
    let ds = it.difat_sectors.items in
    let fs = it.fat_sectors.items in
    let is_ds : ds ++ count_of a ∷ [] ≡ c.push_reserved.new.self.items = sym (c.push_reserved.ensures.items ∙ ap (λ n. ds ++ n ∷ []) did.number) in
    let is_fs : fs ++ count_of m ∷ [] ≡ c.push_reserved-2.new.self.items = sym (c.push_reserved-2.ensures.items ∙ ap (λ n. fs ++ n ∷ []) then.number) in
    let is_fat : (entries_of c.push_reserved-4.new.self) ≡ (entries_of it.fat) ++ free ∷ free ∷ [] = c.push_reserved-4.ensures.entries ∙ ap (λ l. l ++ free ∷ []) c.push_reserved-3.ensures.entries ∙ append_assoc (entries_of it.fat) (free ∷ []) (free ∷ []) in
    let first = subst (λ l. Appends (IsBesideDifat a l) a m) c.deref.ensures.value did.appends in
    let second = subst (λ l. Appends (IsBesideDifat m l) m c.add_fat_sector.new.sectors) (c.deref-2.ensures.value ∙ sym is_ds) then.appends in
    let more = first.count did.not_failed in
    let later : (p : ℕ) → p ≤ sector_start v (count_of a) → p ≤ sector_start v (count_of m) = λ p fits. start_later v (count_of a) (count_of m) p (omega (arith, more)) fits in
    record {
      honest = second.honest ∙ first.honest;
      continues = λ start from. second.continues start (first.continues start from);
      version = second.version ∙ first.version;
      live = λ live. c.requires.live;
      count = λ live. let most = second.count live in omega (arith, more, most);
      orderly = λ live. sym c.requires.orderly;
      fat = λ live. stays_in_front [] (entries_of it.fat) (free ∷ free ∷ []) (entries_of c.push_reserved-4.new.self) is_fat;
      tables = λ live p n fits apart.
          subst (λ l. IsBeside v (l ++ c.push_reserved-2.new.self.items) p n) is_ds (subst (λ l. IsBeside v ((ds ++ count_of a ∷ []) ++ l) p n) is_fs
          (beside_both v (ds ++ count_of a ∷ []) (fs ++ count_of m ∷ []) p n
          (beside_more v ds p n (count_of a) (count_of a) (beside_first v ds fs p n apart) fits (omega arith))
          (beside_more v fs p n (count_of m) (count_of a) (beside_second v ds fs p n apart) fits (omega (arith, more)))));
      still = λ live n. ((λ none. none_first ds (count_of a ∷ []) n (subst (λ l. IsNotIn l n) (sym is_ds) none)), (λ none. none_first fs (count_of m ∷ []) n (subst (λ l. IsNotIn l n) (sym is_fs) none)));
      longer = λ live honest. let one = first.longer did.not_failed honest in let two = second.longer live (subst IsTrue (sym first.honest) honest) in omega (arith, one, two);
      lean = λ live content lean.
          let old = length (entries_of it.fat) in
          lean_same v _ (old + 2) (length fs + 1) (length ds + 1) content _ _ _ _ (second.version ∙ first.version) (ap length is_fat ∙ length-append (entries_of it.fat) (free ∷ free ∷ []))
          (ap length (sym is_fs) ∙ length-append fs (count_of m ∷ [])) (ap length (sym is_ds) ∙ length-append ds (count_of a ∷ [])) (omega arith)
          (lean_longer v old (length fs) (length ds) content (old + 2) (length ds + 1) c.requires.full (omega arith)
          (λ d below. ⊎_elim (λ last. subst (λ n. 109 + n * (per v - 1) < length fs + 1) (sym last.1) (omega (arith, c.requires.crowded))) (λ off. let differ = off.1 in let less = lean.difat d (omega (arith, differ, below)) in omega (arith, less)) (eqb_tells d (length ds))) lean);
      told = λ live honest any.
          let size = ap length is_fs in
          let long = length-append fs (count_of m ∷ []) in
          let same : c.len.result + 1 ≡ length c.push_reserved-2.new.self.items = omega (arith, size, long, c.len.ensures, it.fat_sectors.ok.0) in
          let told = then.answer live (subst IsTrue (sym first.honest) honest) in
          record { difat_count = told.1 ∙ ap length c.deref-2.ensures.value; fat_count = told.0 ∙ same };
      ends = λ live honest orderly ends.
          let order = it.orderly orderly in
          let once_more = once_front (ds ++ count_of a ∷ []) fs (once_middle ds fs (count_of a) order.once (below_both (count_of a) ds fs order.there (it.there c.requires.live))) in
          let has = both_in v (version_of m) (bytes_of a) (bytes_of m) (bytes_of c.add_fat_sector.new.sectors) _ _ ds fs (count_of a) (count_of m) _ first.version c.deref.ensures.value (c.deref-2.ensures.value ∙ sym is_ds)
          (did.listed did.not_failed honest) (then.listed live (subst IsTrue (sym first.honest) honest)) (once_front ds fs order.once) once_more (omega (arith, c.len.ensures, it.fat_sectors.ok.0))
          (lists_now v (bytes_of a) ds fs ((it.listed c.requires.live honest).0 orderly).1) in
          subst (EndsAsStrict (version_of c.add_fat_sector.new.sectors) (bytes_of c.add_fat_sector.new.sectors)) is_ds
          (ends_at (version_of m) _ (bytes_of c.add_fat_sector.new.sectors) (ds ++ count_of a ∷ []) (fs ++ count_of m ∷ []) second.version has.0 has.1 (second.whole live (subst IsTrue (sym first.honest) honest)));
      beside = λ live honest p n fits apart words taken.
          let beside_ds = beside_more v ds p n (count_of a) (count_of a) (beside_first v ds fs p n apart) fits (omega arith) in
          second.before live (subst IsTrue (sym first.honest) honest) p n (subst (λ u. p + n ≤ sector_start u (count_of m)) (sym first.version) (later (p + n) fits)) (subst (λ u. IsBeside u (ds ++ count_of a ∷ []) p n) (sym first.version) beside_ds, words)
          ∙ first.before did.not_failed honest p n fits (beside_first v ds fs p n apart, words);
    }

pub returns-clause-spends : goal.returns-clause-spends
returns-clause-spends g c = λ n had.
    let it = c.args.self.now in
    let first = c.in_ok-difat_sector.ensures in
    let second = c.in_ok-fat_sector.ensures in
    let v = version_of it.sectors in
    let fs = it.fat_sectors.items in
    let ds = it.difat_sectors.items in
    let long_ds : length c.push_reserved.new.self.items ≡ length ds + 1 = ap length c.push_reserved.ensures.items ∙ length-append ds (c.in_ok-difat_sector.difat_sector ∷ []) in
    let long_fs : length c.push_reserved-2.new.self.items ≡ length fs + 1 = ap length c.push_reserved-2.ensures.items ∙ length-append fs (c.in_ok-fat_sector.fat_sector ∷ []) in
    let one : length (entries_of c.push_reserved-3.new.self) ≡ length (entries_of it.fat) + 1 = ap length c.push_reserved-3.ensures.entries ∙ length-append (entries_of it.fat) (free ∷ []) in
    let two = ap length c.push_reserved-4.ensures.entries ∙ length-append (entries_of c.push_reserved-3.new.self) (free ∷ []) in
    let long : length (entries_of c.push_reserved-4.new.self) ≡ length (entries_of it.fat) + 2 = omega (arith, one, two) in
    let none = places_after v (version_of c.add_fat_sector.new.sectors) (length fs) (length (entries_of it.fat)) 2 (length c.push_reserved-2.new.self.items) (length (entries_of c.push_reserved-4.new.self)) (second.appends.version ∙ first.appends.version) c.requires.full long_fs long (omega arith) in
    let before : length (entries_of it.fat) ≡ length fs * (sector_len v / 4) = c.requires.full in
    record {
      fat = let p = had.fat in omega (arith, p, none, before, c.push_reserved-3.ensures.runs, c.push_reserved-3.ensures.capacity, c.push_reserved-4.ensures.runs, c.push_reserved-4.ensures.capacity);
      fat_sectors = let p = had.fat_sectors in omega (arith, p, long_fs, c.push_reserved-2.ensures.capacity);
      difat_sectors = let p = had.difat_sectors in omega (arith, p, long_ds, c.push_reserved.ensures.capacity);
    }

-- the DIFAT's new sector is behind all others
pub invariant_of-self-in-Break-branch-2 : goal.invariant_of-self-in-Break-branch-2
invariant_of-self-in-Break-branch-2 g c =
    let it = c.args.self.now in
    let ds = it.difat_sectors.items in
    let fs = it.fat_sectors.items in
    let did = c.in_ok-difat_sector.ensures in
    let then = c.in_err-fat_sector.ensures in
    let failed = then.error_contract.err in
    let is_ds : ds ++ count_of it.sectors ∷ [] ≡ c.push_reserved.new.self.items = sym (c.push_reserved.ensures.items ∙ ap (λ n. ds ++ n ∷ []) did.number) in
    record {
      same = λ live honest. absurd (cc);
      there = λ live k inside. absurd (cc);
      inside = λ live. absurd (cc);
      whole = subst (λ v. length (entries_of it.fat) ≤ length fs * (sector_len v / 4)) (sym (then.appends.version ∙ did.appends.version)) it.whole;
      packed = λ k below is no_ds no_fs. it.packed k below is (none_first ds (count_of it.sectors ∷ []) k (subst (λ l. IsNotIn l k) (sym is_ds) no_ds)) no_fs;
      orderly = λ now. absurd (cc);
      read_difat = subst (AreRead it.read.ids.items it.read.num_difat) is_ds (read_more it.read.ids.items ds it.read.num_difat (count_of it.sectors) it.read_difat (it.orderly c.requires.orderly).there);
      read_fat = it.read_fat;
      read_alone = λ n no_ds no_fs. it.read_alone n (none_first ds (count_of it.sectors ∷ []) n (subst (λ l. IsNotIn l n) (sym is_ds) no_ds)) no_fs;
      listed = λ live honest. absurd (cc);
    }
