-- What a stream gave up is in use no more after its entry was taken out, but where the directory took it.
use Rattle.std.proofs.Common.{◌≡◌, inl, inr, ℕ, ◌<◌, List, ◌++◌, length, ap, sym, subst, ◌∙◌, ⊎_elim, arith}
use Rattle.std.specs.Prelude.{slice_index, unwrap_or}
use Rattle.std.proofs.lemmas.Option.{slice_get_cases, unwrap_or-slice_get}
use Rattle.cfb_medium.specs.declared.medium.ReadMedium.{Ghosts}
use Rattle.cfb_sectors.specs.Sectors.{free}
use Rattle.cfb_chains.specs.Changes.{HaveEntry, IsNotIn}
use Rattle.cfb_directory.specs.Views.{directory_ids}
use Rattle.cfb_fat.specs.Seeing.{seen_of}
use Rattle.cfb_fat.specs.Tables.{fat_of}
use Rattle.cfb_mini.specs.Changing.{ChangesDirectory, HasUniqueOwners}
use Rattle.cfb_mini.specs.Views.{allocator_of, directory_of}
use Rattle.cfb_mini.specs.declared.mini_allocator.MiniAllocator.{MiniAllocator}
use Rattle.cfb_mini.proofs.Strays.{none_or}
use Rattle.cfb_tree_edits.specs.Freeing.{AreFree, GivesUp}

-- a sector that is free has an entry
free_below : (table : List ℕ) (n : ℕ) → slice_index table n ≡ free → n < length table
free_below table n is =
    ⊎_elim
    (λ there. there.1)
    (λ past. let none : slice_index table n ≡ 0 = sym (unwrap_or-slice_get table n 0) ∙ ap (λ o. unwrap_or o 0) past.1 in absurd (omega (arith, none, is)))
    (slice_get_cases table n).1

module _ {F : Type 0} {g : Ghosts F} (mid new : MiniAllocator F g) (sectors minis words : List ℕ) (own : ℕ → List ℕ) where
  -- LAW: what is free stays so while the directory alone changes, or the directory takes it
  pub given_up : AreFree sectors minis mid → HasUniqueOwners mid own → ChangesDirectory words mid new own → GivesUp sectors minis new
  unfolding seen_of
  given_up are h c = record {
    in_fat = λ k below.
        let n = slice_index sectors k in
        let is = are.in_fat k below in
        let later = directory_ids (directory_of new) in
        ⊎_elim
        (λ none. inl (c.becomes.leaves.entries n (free_below (fat_of (allocator_of mid)) n is) (subst (λ l. IsNotIn l n) (c.ids ∙ ap (λ l. l ++ c.more) (sym h.directory)) none) ∙ is))
        (λ one. inr one)
        (none_or later n);
    in_mini_fat = subst (λ t. HaveEntry free t minis) (sym c.mini_fat) are.in_mini_fat;
  }
