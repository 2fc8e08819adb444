-- Mini FAT and mini stream, put into a new file.
use Rattle.std.proofs.Common.{◌≡◌, ℕ, ◌+◌, ◌<◌, List, [], ◌∷◌, length, refl, ap, sym, subst, ◌∙◌, arith}
use Rattle.std.specs.Prelude.{slice_get, slice_set, Some}
use Rattle.std.proofs.Math.ListN.{length-set}
use Rattle.std.proofs.lemmas.List.{length-map, map-set}
use Rattle.std.proofs.lemmas.Option.{slice_get_within}
use Rattle.cfb_medium.specs.declared.medium.ReadMedium.{Ghosts}
use Rattle.cfb_sectors.specs.Sectors.{end_of_chain, joined}
use Rattle.cfb_creating.specs.NewFile.{new_directory}
use Rattle.cfb_directory.specs.Entries.{entries_in}
use Rattle.cfb_fat.specs.Growing.{IsLean}
use Rattle.cfb_fat.specs.Keeping.{lean_same}
use Rattle.cfb_chain_io.specs.ChainEffects.{AllocatorRunsOut}
use Rattle.cfb_fat.specs.Tables.{bytes_of, version_of}
use Rattle.cfb_fat.specs.declared.allocator.Allocator.{Allocator}
use Rattle.cfb_ownership.specs.LiveFile.{LiveFile}
use Rattle.cfb_ownership.specs.Owners.{directory_owner, first_of, mini_fat_owner, mini_stream_owner, stream_owner, Owners}
use Rattle.cfb_siblings.proofs.Colors.{set_other}
use Rattle.cfb_siblings.proofs.Frames.{set_found}
use Rattle.cfb_tree.specs.Directory.{Entry}
use Rattle.cfb_tree.specs.EntryViews.{entry_in}
use Rattle.cfb_tree.specs.declared.entry.DirEntry.{DirEntry}
use Rattle.cfb_copying.specs.Copied.{Restarts}
use Rattle.cfb_copying.specs.Making.{with_list, IsFileInProgress, IsOneOf}
use Rattle.cfb_copying.specs.Steps.{sectors_among, CanPut, HasCopied, IsNewFileBegun, IsOriginal}
use Rattle.cfb_copying.proofs.Counted.{sectors_size}
use Rattle.cfb_copying.proofs.Numbers.{can_hold, never_out, some_directory}
use Rattle.cfb_copying.proofs.Made.{at_key, at_other, other_test}
use Rattle.cfb_copying.proofs.Originals.{can_put}

-- a new file's owners
abbrev pub new_own : ℕ → List ℕ
new_own = with_list directory_owner (1 ∷ []) (λ k. [])

nothing_among : (id : ℕ) → IsOneOf [] id → ⊥
nothing_among id (k, below, is) = omega (arith, below)

restarts_root : (es : List Entry) (e : Entry) (own : ℕ → List ℕ) (start : ℕ) → slice_get es 0 ≡ Some e → start ≡ first_of (own mini_stream_owner) → Restarts es [] own (slice_set es 0 (record e { start = start }))
restarts_root es e own start found is =
    let new = record e { start = start } in record {
      size = length-set es 0 new;
      root = λ x at.
          let both : Some x ≡ Some e = sym at ∙ found in
          let same : x ≡ e = cc in
          set_found es 0 e new found ∙ ap {A = Entry} (λ y. Some (record y { start = start })) (sym same) ∙ ap {A = ℕ} (λ n. Some (record x { start = n })) is;
      long = λ id x past it at. absurd (nothing_among id it.among);
      other = λ id past apart. set_other es 0 id new (other_test 0 id (λ same. past (sym same)));
    }

module _ {F : Type 0} {g : Ghosts F} {T : Type 0} {h : Ghosts T} (a : Allocator F g) (b : Allocator T h) (s : LiveFile) (who : Owners) (ids : List ℕ) (es : List DirEntry) (original : IsOriginal a s who ids) (same : s.entries ≡ entries_in es) (begun : IsNewFileBegun s.version b) where
  pub some_entries : 0 < length es
  some_entries = let there = slice_get_within s.entries 0 original.held.root original.held.kept.root_found in let size = ap length same in let many = length-map es entry_in in omega (arith, there, size, many)

  pub mini_fat_can : (start : ℕ) → start ≡ first_of (who.sectors mini_fat_owner) → CanPut a start b 1 end_of_chain mini_fat_owner new_own (with_list directory_owner (new_directory s.version) (λ k. [])) (who.sectors mini_fat_owner)
  mini_fat_can start is =
      can_put a b s who ids start 1 end_of_chain mini_fat_owner new_own (with_list directory_owner (new_directory s.version) (λ k. [])) original is begun.of_version begun.made (at_other directory_owner (1 ∷ []) (λ k. []) mini_fat_owner (λ e. omega (arith, e)))

  -- there are numbers for the mini FAT's sectors
  pub mini_fat_never : AllocatorRunsOut 0 (length (who.sectors mini_fat_owner)) b → ⊥
  mini_fat_never =
      let some = some_directory a s who ids original in
      let size = sectors_size who ids in
      never_out b s.version 0 (length (who.sectors mini_fat_owner)) 1 (length (who.sectors directory_owner) + length (sectors_among who ids)) begun.of_version (can_hold a s who ids original) begun.lean (omega (arith, some, size))

  -- and behind these for the mini stream's
  pub mini_stream_never : (y : Allocator T h) → version_of y ≡ version_of b → IsLean y (1 + length (who.sectors mini_fat_owner)) → AllocatorRunsOut 0 (length (who.sectors mini_stream_owner)) y → ⊥
  mini_stream_never y version lean =
      let some = some_directory a s who ids original in
      let size = sectors_size who ids in
      never_out y s.version 0 (length (who.sectors mini_stream_owner)) (1 + length (who.sectors mini_fat_owner)) (length (who.sectors directory_owner) + length (sectors_among who ids)) (version ∙ begun.of_version) (can_hold a s who ids original)
      (lean_same (version_of y) (version_of y) _ _ _ (1 + length (who.sectors mini_fat_owner)) _ _ _ _ refl refl refl refl (omega arith) lean) (omega (arith, some, size))

  module _ (x : Allocator F g) (y : Allocator T h) (minis : List ℕ) (read : IsOriginal x s who ids) (version : version_of y ≡ version_of b) (e : DirEntry) (found : slice_get (entries_in es) 0 ≡ Some (entry_in e))
      (made : IsFileInProgress 1 end_of_chain y (with_list mini_fat_owner minis new_own) (with_list mini_fat_owner (joined (version_of a) (bytes_of a) (who.sectors mini_fat_owner)) (with_list directory_owner (new_directory s.version) (λ k. [])))) where
    abbrev pub own_then : ℕ → List ℕ
    own_then = with_list mini_fat_owner minis new_own

    abbrev pub bytes_then : ℕ → List ℕ
    bytes_then = with_list mini_fat_owner (joined (version_of a) (bytes_of a) (who.sectors mini_fat_owner)) (with_list directory_owner (new_directory s.version) (λ k. []))

    root_start : e.start_sector ≡ first_of (who.sectors mini_stream_owner)
    root_start =
        let both : Some original.held.root ≡ Some (entry_in e) = sym original.held.kept.root_found ∙ ap (λ l. slice_get l 0) same ∙ found in
        let is : original.held.root ≡ entry_in e = cc in
        ap (λ r. r.start) (sym is) ∙ original.held.kept.mini_stream_at

    pub mini_stream_can : CanPut x e.start_sector y 1 end_of_chain mini_stream_owner own_then bytes_then (who.sectors mini_stream_owner)
    mini_stream_can =
        can_put x y s who ids e.start_sector 1 end_of_chain mini_stream_owner own_then bytes_then read root_start (version ∙ begun.of_version) made
        (at_other mini_fat_owner minis new_own mini_stream_owner (λ is. omega (arith, is)) ∙ at_other directory_owner (1 ∷ []) (λ k. []) mini_stream_owner (λ is. omega (arith, is)))

    pub minis_copied : (c : Allocator T h) (stream : List ℕ) (start : ℕ) → start ≡ first_of stream → version_of c ≡ version_of y
        → IsFileInProgress 1 end_of_chain c (with_list mini_stream_owner stream own_then) (with_list mini_stream_owner (joined (version_of x) (bytes_of x) (who.sectors mini_stream_owner)) bytes_then)
        → IsLean c (1 + length (who.sectors mini_fat_owner) + length (who.sectors mini_stream_owner))
        → HasCopied s who [] minis (entries_in (slice_set es 0 (record e { start_sector = start }))) c
    minis_copied c stream start is later done lean =
        let own = with_list mini_stream_owner stream own_then in
        let content = joined (version_of x) (bytes_of x) (who.sectors mini_stream_owner) in
        let found_there : slice_get s.entries 0 ≡ Some (entry_in e) = ap (λ l. slice_get l 0) same ∙ found in
        let mine : own mini_stream_owner ≡ stream = at_key mini_stream_owner stream own_then in
        let list : slice_set s.entries 0 (record (entry_in e) { start = start }) ≡ entries_in (slice_set es 0 (record e { start_sector = start })) =
        ap (λ l. slice_set l 0 (record (entry_in e) { start = start })) same ∙ sym (map-set entry_in es 0 (record e { start_sector = start })) in
        record {
          own = own;
          bytes = with_list mini_stream_owner content bytes_then;
          made = done;
          version = later ∙ version ∙ begun.of_version;
          directory = at_other mini_stream_owner stream own_then directory_owner (λ e. omega (arith, e)) ∙ at_other mini_fat_owner minis new_own directory_owner (λ e. omega (arith, e)) ∙ at_key directory_owner (1 ∷ []) (λ k. []);
          minis_are = at_other mini_stream_owner stream own_then mini_fat_owner (λ e. omega (arith, e)) ∙ at_key mini_fat_owner minis new_own;
          mini_fat = at_other mini_stream_owner content bytes_then mini_fat_owner (λ e. omega (arith, e)) ∙ at_key mini_fat_owner (joined (version_of a) (bytes_of a) (who.sectors mini_fat_owner)) (with_list directory_owner (new_directory s.version) (λ k. []))
              ∙ ap (λ v. joined v (bytes_of a) (who.sectors mini_fat_owner)) original.version ∙ ap (λ l. joined s.version l (who.sectors mini_fat_owner)) original.bytes;
          mini_stream = at_key mini_stream_owner content bytes_then ∙ ap (λ v. joined v (bytes_of x) (who.sectors mini_stream_owner)) read.version ∙ ap (λ l. joined s.version l (who.sectors mini_stream_owner)) read.bytes;
          streams = λ id it. absurd (nothing_among id it.among);
          none = λ id apart. at_other mini_stream_owner stream own_then (stream_owner id) (λ e. omega (arith, e)) ∙ at_other mini_fat_owner minis new_own (stream_owner id) (λ e. omega (arith, e))
              ∙ at_other directory_owner (1 ∷ []) (λ k. []) (stream_owner id) (λ e. omega (arith, e));
          restarts = subst (Restarts s.entries [] own) list (restarts_root s.entries (entry_in e) own start found_there (is ∙ ap first_of (sym mine)));
          lean = lean_same (version_of c) (version_of c) _ _ _ (1 + length (who.sectors mini_fat_owner) + length (who.sectors mini_stream_owner)) _ _ _ _ refl refl refl refl (let size : length (sectors_among who []) ≡ length (who.sectors mini_fat_owner) + length (who.sectors mini_stream_owner) + 0 = sectors_size who [] in omega (arith, size)) lean;
        }
