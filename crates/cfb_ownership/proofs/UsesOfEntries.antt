-- What each entry uses, of the list of all uses of a sound file.
use Rattle.std.proofs.Common.{◌≡◌, ◌≢◌, ℕ, ◌<◌, List, [], ◌∷◌, ◌++◌, map, length, take, cond, true, false, arith, suc, refl, ap, sym, subst, ◌∙◌, ⊎_elim}
use Rattle.std.specs.Prelude.{nat_eq, slice_get, Some, ◌⊎◌}
use mathlib.Core.Logic.{inl, inr}
use Rattle.std.specs.List.{flat_map, AllByRecursion, IsDistinct}
use Rattle.std.proofs.lemmas.Bool.Decides.{eqb_tells, leb_tells}
use Rattle.cfb_chains.specs.Changes.{IsNotIn}
use Rattle.cfb_sectors.specs.Header.{mini_cutoff}
use Rattle.cfb_sectors.specs.Sectors.{sectors_in, AreInFile, Chain}
use Rattle.cfb_chains.specs.Grown.{IsChainInTable}
use Rattle.cfb_fat.proofs.DifatChains.{in_file_below}
use Rattle.cfb_medium.specs.declared.version.Version.{Version}
use Rattle.cfb_tree.specs.Directory.{kind_storage, kind_stream, Entry}
use Rattle.cfb_spec.specs.Means.{directory, fat, mini_fat, IsInMiniStream, Layout}
use Rattle.cfb_spec.specs.Sound.{in_file, in_mini_stream, EntryUses, IsUsablePart, Part, TreeUses}
use Rattle.cfb_ownership.specs.Owners.{first_of}
use Rattle.cfb_ownership.proofs.PartsApart.{all_split}
use Rattle.cfb_ownership.proofs.KeysOfParts.{minis_among, minis_of_map, minis_of_sectors, sectors_among, sectors_of_map, sectors_of_minis, IsOneOf}
use Rattle.cfb_fat.proofs.CutChains.{get_in_cut}

equal_tests : (x y : ℕ) → x ≡ y → nat_eq x y ≡ true
equal_tests x y same = grind arith

other_tests : (x y : ℕ) → x ≢ y → nat_eq x y ≡ false
other_tests x y other = grind arith

pub one_not_none : (xs : List ℕ) (n : ℕ) → IsOneOf xs n → IsNotIn xs n → ⊥
one_not_none [] n one none = one
one_not_none (x ∷ xs) n (inl same) none = none 0 (omega arith) same
one_not_none (x ∷ xs) n (inr later) none = one_not_none xs n later (λ k below same. none (suc k) (omega (arith, below)) same)

pub all_from : (P : ℕ → Type 0) (xs : List ℕ) → ((k : ℕ) → IsOneOf xs k → P k) → AllByRecursion P xs
all_from P [] each = tt
all_from P (x ∷ xs) each = (each x (inl refl), all_from P xs (λ k one. each k (inr one)))

pub all_one : (P : ℕ → Type 0) (xs : List ℕ) (k : ℕ) → AllByRecursion P xs → IsOneOf xs k → P k
all_one P [] k all one = absurd one
all_one P (x ∷ xs) k all (inl same) = subst P same all.0
all_one P (x ∷ xs) k all (inr later) = all_one P xs k all.1 later

pub all_of_key : (P : Part → Type 0) (f : ℕ → List Part) (ks : List ℕ) (k : ℕ) → AllByRecursion P (flat_map f ks) → IsOneOf ks k → AllByRecursion P (f k)
all_of_key P f [] k all one = absurd one
all_of_key P f (x ∷ ks) k all (inl same) = subst (λ n. AllByRecursion P (f n)) same (all_split P (f x) (flat_map f ks) all).0
all_of_key P f (x ∷ ks) k all (inr later) = all_of_key P f ks k (all_split P (f x) (flat_map f ks) all).1 later

flat_same : (f g : ℕ → List Part) (ks : List ℕ) → AllByRecursion (λ k. f k ≡ g k) ks → flat_map f ks ≡ flat_map g ks
flat_same f g [] all = refl
flat_same f g (k ∷ ks) all = ap (λ xs. xs ++ flat_map f ks) all.0 ∙ ap (λ xs. g k ++ xs) (flat_same f g ks all.1)

cut_chain : (v : Version) (b table : List ℕ) (start : ℕ) (xs : List ℕ) → Chain table start xs → AreInFile v b xs → Chain (take (sectors_in v (length b)) table) start xs
cut_chain v b table start [] is there = is
cut_chain v b table start (x ∷ xs) (is, regular, next, found, rest) there =
    let below : start < sectors_in v (length b) = subst (λ n. n < sectors_in v (length b)) is (in_file_below v b x there.0) in
    (is, regular, next, get_in_cut (sectors_in v (length b)) table start next below found, cut_chain v b table next xs rest there.1)

pub start_is : (table : List ℕ) (start : ℕ) (xs : List ℕ) → Chain table start xs → start ≡ first_of xs
start_is table start [] is = is
start_is table start (x ∷ xs) (is, regular, next, found, rest) = sym is

pub linked_cut : (v : Version) (b table : List ℕ) (start : ℕ) (xs : List ℕ) → Chain table start xs → AreInFile v b xs → IsChainInTable (take (sectors_in v (length b)) table) xs
linked_cut v b table start xs chain there =
    let cut = cut_chain v b table start xs chain there in
    subst (λ n. Chain (take (sectors_in v (length b)) table) n xs) (start_is table start xs chain) cut

module _ (bytes : List ℕ) (l : Layout) where
  -- what entry k uses
  abbrev pub uses_of : (ids : List ℕ) (parts : List Part) → TreeUses bytes l ids parts → ℕ → List Part
  uses_of [] parts t k = []
  uses_of (id ∷ ids) parts (e, own, others, found, uses, rest, is) k = cond (nat_eq id k) own (uses_of ids others rest k)

  pub in_or_nothing : (ids : List ℕ) (parts : List Part) (t : TreeUses bytes l ids parts) (k : ℕ) → IsOneOf ids k ⊎ (uses_of ids parts t k ≡ [])
  in_or_nothing [] parts t k = inr refl
  in_or_nothing (id ∷ ids) parts (e, own, others, found, uses, rest, is) k = ⊎_elim
      (λ same. inl (inl same.1))
      (λ differ. ⊎_elim (λ one. inl (inr one)) (λ none. inr (ap (λ b. cond b own (uses_of ids others rest k)) (other_tests id k differ.1) ∙ none)) (in_or_nothing ids others rest k))
      (eqb_tells id k)

  pub use_at : (ids : List ℕ) (parts : List Part) (t : TreeUses bytes l ids parts) (k : ℕ) → IsOneOf ids k
      → (e : Entry) × (slice_get (directory bytes l) k ≡ Some e) × EntryUses bytes l e (uses_of ids parts t k)
  use_at [] parts t k one = absurd one
  use_at (id ∷ ids) parts (e, own, others, found, uses, rest, is) k one = ⊎_elim
      (λ same. (e, subst (λ n. slice_get (directory bytes l) n ≡ Some e) same.1 found, subst (λ b. EntryUses bytes l e (cond b own (uses_of ids others rest k))) (sym (equal_tests id k same.1)) uses))
      (λ differ. let at = use_at ids others rest k (later differ.1 one) in
      (at.0, at.1, subst (λ b. EntryUses bytes l at.0 (cond b own (uses_of ids others rest k))) (sym (other_tests id k differ.1)) at.2))
      (eqb_tells id k)
    where
      later : (id ≡ k → ⊥) → IsOneOf (id ∷ ids) k → IsOneOf ids k
      later other (inl same) = absurd (other same)
      later other (inr one) = one

  pub uses_joined : (ids : List ℕ) (parts : List Part) (t : TreeUses bytes l ids parts) → IsDistinct nat_eq ids → parts ≡ flat_map (uses_of ids parts t) ids
  unfolding IsDistinct
  uses_joined [] parts t once = t
  uses_joined (id ∷ ids) parts (e, own, others, found, uses, rest, is) once =
      is ∙ ap (λ xs. own ++ xs) (uses_joined ids others rest once.1 ∙ sym (flat_same (uses_of (id ∷ ids) parts (e, own, others, found, uses, rest, is)) (uses_of ids others rest) ids (behind ids once.0)))
      ∙ ap (λ b. cond b own (uses_of ids others rest id) ++ flat_map (uses_of (id ∷ ids) parts (e, own, others, found, uses, rest, is)) ids) (sym (equal_tests id id refl))
    where
      behind : (ks : List ℕ) → AllByRecursion (λ k. nat_eq id k ≡ false) ks → AllByRecursion (λ k. cond (nat_eq id k) own (uses_of ids others rest k) ≡ uses_of ids others rest k) ks
      behind [] all = tt
      behind (k ∷ ks) all = (ap (λ b. cond b own (uses_of ids others rest k)) all.0, behind ks all.1)

  -- an entry's parts are chains of the tables
  pub record Fits (own : List Part) : Type 0 where
    pub sectors : IsChainInTable (take (sectors_in l.version (length bytes)) (fat bytes l)) (sectors_among own)
    pub minis : IsChainInTable (mini_fat bytes l) (minis_among own)
    pub there : AllByRecursion (IsInMiniStream bytes l) (minis_among own)

  are_in_file : (xs : List ℕ) → AllByRecursion (IsUsablePart bytes l) (map in_file xs) → AreInFile l.version bytes xs
  are_in_file [] all = tt
  are_in_file (x ∷ xs) all = (all.0.0, are_in_file xs all.1)

  are_in_stream : (xs : List ℕ) → AllByRecursion (IsUsablePart bytes l) (map in_mini_stream xs) → AllByRecursion (IsInMiniStream bytes l) xs
  are_in_stream [] all = tt
  are_in_stream (x ∷ xs) all = (all.0.0, are_in_stream xs all.1)

  pub nothing_fits : Fits []
  nothing_fits = record { sectors = refl; minis = refl; there = tt }

  pub sectors_fit : (start : ℕ) (xs : List ℕ) → Chain (fat bytes l) start xs → AreInFile l.version bytes xs → Fits (map in_file xs)
  sectors_fit start xs chain there = record {
    sectors = subst (IsChainInTable (take (sectors_in l.version (length bytes)) (fat bytes l))) (sym (sectors_of_map xs)) (linked_cut l.version bytes (fat bytes l) start xs chain there);
    minis = subst (IsChainInTable (mini_fat bytes l)) (sym (minis_of_sectors xs)) refl;
    there = subst (AllByRecursion (IsInMiniStream bytes l)) (sym (minis_of_sectors xs)) tt;
  }

  minis_fit : (start : ℕ) (xs : List ℕ) → Chain (mini_fat bytes l) start xs → AllByRecursion (IsUsablePart bytes l) (map in_mini_stream xs) → Fits (map in_mini_stream xs)
  minis_fit start xs chain usable = record {
    sectors = subst (IsChainInTable (take (sectors_in l.version (length bytes)) (fat bytes l))) (sym (sectors_of_minis xs)) refl;
    minis = subst (IsChainInTable (mini_fat bytes l)) (sym (minis_of_map xs)) (subst (λ n. Chain (mini_fat bytes l) n xs) (start_is (mini_fat bytes l) start xs chain) chain);
    there = subst (AllByRecursion (IsInMiniStream bytes l)) (sym (minis_of_map xs)) (are_in_stream xs usable);
  }

  pub entry_fits : (e : Entry) (own : List Part) → EntryUses bytes l e own → (e.kind ≡ kind_storage) ⊎ (e.kind ≡ kind_stream) → AllByRecursion (IsUsablePart bytes l) own → Fits own
  entry_fits e own uses (inl is_storage) usable = subst Fits (sym (uses.storage is_storage)) nothing_fits
  entry_fits e own uses (inr is_stream) usable = ⊎_elim
      (λ up. let long = uses.long is_stream up.1 in subst Fits (sym long.2) (sectors_fit e.start long.0 long.1 (are_in_file long.0 (subst (AllByRecursion (IsUsablePart bytes l)) long.2 usable))))
      (λ below. let short = uses.short is_stream below.1 in subst Fits (sym short.2) (minis_fit e.start short.0 short.1 (subst (AllByRecursion (IsUsablePart bytes l)) short.2 usable)))
      (leb_tells mini_cutoff e.size)
