-- A directory that can take in entries can take in more after one was written.
use Rattle.std.proofs.Common.{◌≡◌, ℕ, ◌≤◌, false, List, [], ◌∷◌, ◌++◌, replicate, set, zero, suc, ap, sym, subst, ◌∙◌, arith, ⊎_elim, IsTrue}
use Rattle.std.specs.Prelude.{slice_get}
use Rattle.std.proofs.lemmas.Bool.Decides.{eqb_tells}
use Rattle.cfb_medium.specs.Versions.{dir_entries_per_sector, stream_len_mask}
use Rattle.cfb_medium.specs.declared.medium.ReadMedium.{Ghosts}
use Rattle.cfb_medium.specs.declared.version.Version.{Version}
use Rattle.cfb_fat.specs.Tables.{has_failed_here, version_of}
use Rattle.cfb_chain_io.specs.ChainEffects.{KeepsFileInvariants}
use Rattle.cfb_tree.specs.Directory.{Entry}
use Rattle.cfb_tree.specs.Entries.{empty_entry}
use Rattle.cfb_tree.proofs.OneContent.{Some_same}
use Rattle.cfb_siblings.specs.Places.{HasEntry}
use Rattle.cfb_siblings.proofs.Frames.{append_keeps, set_changes_only, set_found}
use Rattle.cfb_directory.specs.Changes.{SetsEntry}
use Rattle.cfb_directory.specs.Entries.{SizesFit}
use Rattle.cfb_directory.specs.Growth.{GrowsDirectory, CanGrowDirectory, MayGrow}
use Rattle.cfb_directory.specs.Views.{allocator_of, entries_held}
use Rattle.cfb_directory.specs.declared.directory.Directory.{Directory}
use Rattle.cfb_directory.proofs.EntrySizes.{sizes_same}

entry_kept : (v : Version) (old new : List Entry) (k : ℕ) → MayGrow v old new → HasEntry old k → HasEntry new k
entry_kept v old new k grown (e, found) =
    (e, ⊎_elim (λ same. ap (λ l. slice_get l k) same ∙ found) (λ more. ap (λ l. slice_get l k) more.0 ∙ append_keeps old (replicate (dir_entries_per_sector v) empty_entry) k e found) grown)

entry_set : (es : List Entry) (id k : ℕ) (f : Entry) → HasEntry es k → HasEntry (set es id f) k
entry_set es id k f (e, found) =
    ⊎_elim
    (λ same. (f, ap (slice_get (set es id f)) (sym same.1) ∙ set_found es id e f (ap (slice_get es) same.1 ∙ found)))
    (λ differ. (e, set_changes_only es id f k e differ.0 found))
    (eqb_tells id k)

-- the link's holder is there still
pub holder_there : (v : Version) (old mid new : List Entry) (id k : ℕ) (f : Entry) → MayGrow v old mid → new ≡ set mid id f → HasEntry old k → HasEntry new k
holder_there v old mid new id k f grown is has = subst (λ es. HasEntry es k) (sym is) (entry_set mid id k f (entry_kept v old mid k grown has))

unused_fit : (v : Version) (n : ℕ) → SizesFit v (replicate n empty_entry)
unused_fit v zero k e found = absurd (cc)
unused_fit v (suc n) zero e found = let none : e.size ≡ 0 = ap (λ (x : Entry). x.size) (sym (Some_same found)) in omega (arith, none)
unused_fit v (suc n) (suc k) e found = unused_fit v n k e found

sizes_append : (v : Version) (xs ys : List Entry) → SizesFit v xs → SizesFit v ys → SizesFit v (xs ++ ys)
sizes_append v [] ys first second k e found = second k e found
sizes_append v (x ∷ xs) ys first second zero e found = first 0 e found
sizes_append v (x ∷ xs) ys first second (suc k) e found = sizes_append v xs ys (λ j. first (suc j)) second k e found

pub sizes_set : (v : Version) (es : List Entry) (id : ℕ) (f : Entry) → f.size ≤ stream_len_mask v → SizesFit v es → SizesFit v (set es id f)
sizes_set v [] id f small fits k e found = absurd (cc)
sizes_set v (x ∷ es) zero f small fits zero e found = let same : e.size ≡ f.size = ap (λ (y : Entry). y.size) (sym (Some_same found)) in omega (arith, small, same)
sizes_set v (x ∷ es) zero f small fits (suc k) e found = fits (suc k) e found
sizes_set v (x ∷ es) (suc id) f small fits zero e found = fits 0 e found
sizes_set v (x ∷ es) (suc id) f small fits (suc k) e found = sizes_set v es id f small (λ j. fits (suc j)) k e found

pub sizes_behind : (v w : Version) (old new : List Entry) → MayGrow w old new → SizesFit v old → SizesFit v new
sizes_behind v w old new grown fits =
    ⊎_elim
    (λ same. subst (SizesFit v) (sym same) fits)
    (λ more. subst (SizesFit v) (sym more.0) (sizes_append v old (replicate (dir_entries_per_sector w) empty_entry) fits (unused_fit v (dir_entries_per_sector w))))
    grown

module _ {F : Type 0} {g : Ghosts F} where
  pub ready_next : (old mid new : Directory F g) (id : ℕ) (f : Entry) → CanGrowDirectory old → KeepsFileInvariants (allocator_of old) (allocator_of mid) → KeepsFileInvariants (allocator_of mid) (allocator_of new) → has_failed_here (allocator_of mid) ≡ false → has_failed_here (allocator_of new) ≡ false
      → GrowsDirectory old mid → MayGrow (version_of (allocator_of old)) (entries_held old) (entries_held mid) → SetsEntry id f mid new → f.size ≡ 0 → CanGrowDirectory new
  ready_next old mid new id f ready first then live alive grown more sets small =
      let v = version_of (allocator_of old) in record {
        has = sets.has grown.has;
        orderly = subst IsTrue (sym (first.orderly live) ∙ sym (then.orderly alive)) ready.orderly;
        sizes = sizes_same v (version_of (allocator_of new)) (set (entries_held mid) id f) (entries_held new) (then.version ∙ first.version) sets.entries
            (sizes_set v (entries_held mid) id f (omega (arith, small)) (sizes_behind v v (entries_held old) (entries_held mid) more ready.sizes));
      }
