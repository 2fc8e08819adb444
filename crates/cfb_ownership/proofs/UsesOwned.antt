-- What the entries of a sound file use is owned: as sectors and as mini sectors.
use Rattle.std.proofs.Common.{◌≡◌, ◌≢◌, ℕ, List, [], ◌∷◌, ◌++◌, map, length, append_assoc, arith, zero, suc, refl, ap, sym, subst, ◌∙◌, ⊎_elim}
use Rattle.std.specs.Prelude.{slice_get, Some, ◌⊎◌}
use mathlib.Core.Logic.{inl, inr}
use Rattle.std.specs.List.{flat_map, AllByRecursion, IsDistinct}
use Rattle.std.proofs.lemmas.List.{map-append}
use Rattle.cfb_chains.specs.Changes.{AreDisjoint, IsNotIn}
use Rattle.cfb_chains.proofs.Beside.{none_both, none_first, none_second}
use Rattle.cfb_sectors.specs.Sectors.{free, sectors_in}
use Rattle.cfb_tree.specs.Names.{CaseTable}
use Rattle.cfb_tree.specs.Tree.{Tree}
use Rattle.cfb_tree.specs.Directory.{kind_storage, kind_stream}
use Rattle.cfb_tree.proofs.OneContent.{Some_same}
use Rattle.cfb_spec.specs.Means.{directory, fat, mini_fat, HasBytes, Layout}
use Rattle.cfb_spec.specs.Sound.{in_file, AreApart, IsSoundBy, IsUsablePart, Part}
use Rattle.cfb_chains.specs.Owned.{OwnDisjointChains}
use Rattle.cfb_fat.proofs.CutChains.{get_of_cut}
use Rattle.cfb_ownership.specs.Owners.{Owners}
use Rattle.cfb_ownership.specs.LiveFile.{live_file}
use Rattle.cfb_ownership.proofs.PartsApart.{all_split, nothing_differs, Differ}
use Rattle.cfb_ownership.proofs.KeysOfParts.{keys_differ, minis_among, none_of_minis, none_of_sectors, sectors_among, sectors_of_map, IsOneOf}
use Rattle.cfb_ownership.proofs.UsesOfEntries.{all_of_key, entry_fits, sectors_fit, in_or_nothing, nothing_fits, use_at, uses_joined, uses_of, Fits}
use Rattle.cfb_ownership.proofs.UsedParts.{all_keys, key_of}
use Rattle.cfb_ownership.proofs.HoldsById.{kinds}

-- what the tables use, the directory, the mini FAT, the mini stream, and each entry
abbrev pub by_key : Layout → (ℕ → List Part) → ℕ → List Part
by_key l uses zero = map in_file (l.fat_sectors ++ l.difat_sectors)
by_key l uses (suc zero) = map in_file l.directory_sectors
by_key l uses (suc (suc zero)) = map in_file l.mini_fat_sectors
by_key l uses (suc (suc (suc zero))) = map in_file l.mini_stream_sectors
by_key l uses (suc (suc (suc (suc id)))) = uses id

-- each owner has what it uses
abbrev pub owners_of : Layout → (ℕ → List Part) → Owners
owners_of l uses = record { sectors = λ k. sectors_among (by_key l uses (suc k)); minis = λ k. minis_among (by_key l uses (suc k)) }

none_of_nothing : (xs : List ℕ) → AreDisjoint [] xs
none_of_nothing [] = tt
none_of_nothing (x ∷ xs) = ((λ k below same. absurd (omega (arith, below))), none_of_nothing xs)

pub key_one : (ids : List ℕ) (id : ℕ) → IsOneOf ids id → IsOneOf (map key_of ids) (key_of id)
key_one [] id one = one
key_one (x ∷ ids) id (inl same) = inl (ap key_of same)
key_one (x ∷ ids) id (inr later) = inr (key_one ids id later)

keyed : (l : Layout) (uses : ℕ → List Part) (ids : List ℕ) → flat_map (by_key l uses) (map key_of ids) ≡ flat_map uses ids
keyed l uses [] = refl
keyed l uses (id ∷ ids) = ap (λ xs. uses id ++ xs) (keyed l uses ids)

module _ (bytes : List ℕ) (l : Layout) (letters : CaseTable) (tree : Tree) (h : IsSoundBy l letters bytes tree) where
  abbrev pub used : ℕ → List Part
  used = uses_of bytes l l.entries h.uses.0 h.uses.1

  all_used : h.parts ≡ flat_map (by_key l used) (all_keys l.entries)
  unfolding IsDistinct
  all_used =
      let streams : h.uses.0 ≡ flat_map used l.entries = uses_joined bytes l l.entries h.uses.0 h.uses.1 h.means.once.1 in
      h.uses.2 ∙ ap (λ xs. map in_file (l.fat_sectors ++ l.difat_sectors ++ l.directory_sectors ++ l.mini_fat_sectors ++ l.mini_stream_sectors) ++ xs) (streams ∙ sym (keyed l used l.entries))
      ∙ simp (map-append, append_assoc)

  differ : (k m : ℕ) → k ≢ m → Differ (by_key l used k) (by_key l used m)
  differ k m other = ⊎_elim
      (λ k_in. ⊎_elim
      (λ m_in. keys_differ (by_key l used) (all_keys l.entries) (subst AreApart all_used h.apart) k m k_in m_in other)
      (λ none. subst (Differ (by_key l used k)) (sym none) (nothing_differs (by_key l used k)))
      (there m))
      (λ none. subst (λ xs. Differ xs (by_key l used m)) (sym none) tt)
      (there k)
    where
      there : (k : ℕ) → IsOneOf (all_keys l.entries) k ⊎ (by_key l used k ≡ [])
      there zero = inl (inl refl)
      there (suc zero) = inl (inr (inl refl))
      there (suc (suc zero)) = inl (inr (inr (inl refl)))
      there (suc (suc (suc zero))) = inl (inr (inr (inr (inl refl))))
      there (suc (suc (suc (suc id)))) = ⊎_elim (λ one. inl (inr (inr (inr (inr (key_one l.entries id one)))))) (λ none. inr none) (in_or_nothing bytes l l.entries h.uses.0 h.uses.1 id)

  usable : AllByRecursion (IsUsablePart bytes l) (flat_map (by_key l used) (all_keys l.entries))
  usable = subst (AllByRecursion (IsUsablePart bytes l)) all_used h.usable

  stream_fits : (id : ℕ) → Fits bytes l (used id)
  stream_fits id = ⊎_elim
      (λ one.
      let at = use_at bytes l l.entries h.uses.0 h.uses.1 id one in
      let kind = kinds (directory bytes l) (HasBytes bytes l) tree.content h.means.children l.entries h.means.holds id one in
      let same : kind.0 ≡ at.0 = Some_same (sym kind.1 ∙ at.1) in
      entry_fits bytes l at.0 (used id) at.2 (subst (λ e. (e.kind ≡ kind_storage) ⊎ (e.kind ≡ kind_stream)) same kind.2)
      (all_of_key (IsUsablePart bytes l) (by_key l used) (all_keys l.entries) (key_of id) usable (inr (inr (inr (inr (key_one l.entries id one)))))))
      (λ none. subst (Fits bytes l) (sym none) (nothing_fits bytes l))
      (in_or_nothing bytes l l.entries h.uses.0 h.uses.1 id)

  pub each_fits : (k : ℕ) → Fits bytes l (by_key l used (suc k))
  each_fits zero = sectors_fit bytes l _ l.directory_sectors h.means.laid_out.directory_chain h.means.laid_out.directory_in_file
  each_fits (suc zero) = sectors_fit bytes l _ l.mini_fat_sectors h.means.laid_out.mini_fat_chain h.means.laid_out.mini_fat_in_file
  each_fits (suc (suc zero)) = sectors_fit bytes l _ l.mini_stream_sectors h.means.laid_out.mini_stream_chain h.means.laid_out.mini_stream_in_file
  each_fits (suc (suc (suc id))) = stream_fits id

  other_keys : (k m : ℕ) → (k ≡ m → ⊥) → suc m ≢ suc k
  other_keys k m other same = other (omega arith)

  pub sectors_owned : OwnDisjointChains (live_file bytes l).fat (l.difat_sectors ++ l.fat_sectors) (owners_of l used).sectors
  sectors_owned = record {
    linked = λ k. (each_fits k).sectors;
    apart = λ k m other. none_of_sectors (by_key l used (suc m)) (by_key l used (suc k)) (differ (suc m) (suc k) (other_keys k m other));
    beside = λ k. swapped (sectors_among (by_key l used (suc k)))
        (subst (λ xs. AreDisjoint xs (sectors_among (by_key l used (suc k)))) (sectors_of_map (l.fat_sectors ++ l.difat_sectors))
        (none_of_sectors (by_key l used (suc k)) (by_key l used zero) (differ (suc k) 0 (λ e. omega arith))));
    marked = λ n loose. none_both l.difat_sectors l.fat_sectors n
        (unmarked n l.difat_sectors loose (tables.1)) (unmarked n l.fat_sectors loose (tables.0));
  }
    where
      swapped : (ns : List ℕ) → AreDisjoint (l.fat_sectors ++ l.difat_sectors) ns → AreDisjoint (l.difat_sectors ++ l.fat_sectors) ns
      swapped [] none = tt
      swapped (n ∷ ns) none = (none_both l.difat_sectors l.fat_sectors n (none_second l.fat_sectors l.difat_sectors n none.0) (none_first l.fat_sectors l.difat_sectors n none.0), swapped ns none.1)

      tables : AllByRecursion (IsUsablePart bytes l) (map in_file l.fat_sectors) × AllByRecursion (IsUsablePart bytes l) (map in_file l.difat_sectors)
      tables = all_split (IsUsablePart bytes l) (map in_file l.fat_sectors) (map in_file l.difat_sectors)
          (subst (AllByRecursion (IsUsablePart bytes l)) (map-append in_file l.fat_sectors l.difat_sectors) (all_of_key (IsUsablePart bytes l) (by_key l used) (all_keys l.entries) 0 usable (inl refl)))

      unmarked : (n : ℕ) (xs : List ℕ) → slice_get (live_file bytes l).fat n ≡ Some free → AllByRecursion (IsUsablePart bytes l) (map in_file xs) → IsNotIn xs n
      unmarked n [] loose all k below same = absurd (omega (arith, below))
      unmarked n (x ∷ xs) loose all zero below same =
          let whole : slice_get (fat bytes l) n ≡ Some free = get_of_cut (sectors_in l.version (length bytes)) (fat bytes l) n free loose in
          let here = all.0 in
          here.3 (Some_same (sym here.2 ∙ ap (slice_get (fat bytes l)) same ∙ whole))
      unmarked n (x ∷ xs) loose all (suc k) below same = unmarked n xs loose all.1 k (omega (arith, below)) same

  pub minis_owned : OwnDisjointChains (mini_fat bytes l) [] (owners_of l used).minis
  minis_owned = record {
    linked = λ k. (each_fits k).minis;
    apart = λ k m other. none_of_minis (by_key l used (suc m)) (by_key l used (suc k)) (differ (suc m) (suc k) (other_keys k m other));
    beside = λ k. none_of_nothing (minis_among (by_key l used (suc k)));
    marked = λ n loose k below same. absurd (omega (arith, below));
  }
