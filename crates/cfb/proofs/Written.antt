-- A stream that is written, in a file that was only read since, or was rewritten.
use Rattle.std.proofs.Common.{◌≡◌, ℕ, ◌*◌, ◌≤◌, ◌⊎◌, inl, inr, List, [], length, false, true, refl, sym, subst, ◌∙◌}
use Rattle.std.specs.Prelude.{slice_get, Some}
use Rattle.cfb_medium.specs.declared.error.Error.{Error}
use Rattle.cfb_medium.specs.declared.error.Error.TheVariants.{Failed, InvalidData, Memory}
use Rattle.cfb_medium.specs.declared.medium.ReadMedium.{Ghosts}
use Rattle.cfb_fat.specs.Tables.{bytes_of, has_failed_here}
use Rattle.cfb_directory.specs.Views.{entries_held}
use Rattle.cfb_entries.proofs.StreamsHeld.{stream_held}
use Rattle.cfb_tree_edits.proofs.Resting.{means_stays, stays_owned}
use Rattle.cfb_tree_edits.specs.Live as live
use Rattle.cfb_tree_edits.specs.Orphans.{StaysTidy}
use Rattle.cfb_spec.specs.Means.{HasBytes}
use Rattle.cfb_spec.specs.TreeRules.{has_bytes, open_read_stream, open_stream, tree_step}
use Rattle.cfb_mini.specs.Changing.{KeepsOwnership}
use Rattle.cfb_mini.specs.Views.{allocator_of, directory_of}
use Rattle.cfb_mini.specs.declared.mini_allocator.MiniAllocator.{MiniAllocator}
use Rattle.cfb_ownership.specs.Held.{OwnersHoldTree}
use Rattle.cfb_siblings.specs.Places.{LeadsTo}
use Rattle.cfb_stream_reads.specs.Content as lower
use Rattle.cfb_stream_reads.specs.Streams.{sectors_in, IsOfLevel, StreamLiesIn}
use Rattle.cfb_stream_reads.specs.declared.opening.StreamLinks.{StreamLinks}
use Rattle.cfb_stream_reads.specs.declared.opening.StreamLinks.TheVariants.{Long, Short}
use Rattle.cfb_tree.specs.Changes.{changed, with_bytes}
use Rattle.cfb_tree.specs.Directory.{kind_stream, Entry}
use Rattle.cfb_tree.specs.Names.{CaseTable}
use Rattle.cfb_tree.specs.Objects.{a_stream, object_at}
use Rattle.cfb_tree.specs.Paths.{Path}
use Rattle.cfb_tree.specs.Tree.{Tree}
use Rattle.cfb_tree.proofs.OneContent.{Some_same}
use Rattle.cfb_stream_writes.specs.Streams.{AreAlike, AreLinksOf, IsStreamAt, RewritesIn}
use Rattle.cfb_stream_writes.proofs.Placed.{entry_of, found_at}
use Rattle.cfb_stream_writes.proofs.Moved.{links_kept}
use Rattle.cfb.specs.FollowedRules.{FileMeansTree}
use Rattle.cfb.specs.Streams.{FileHasStream, IsFileMemoryOrFailed}
use Rattle.cfb.specs.Views.{ahead_held, file_case_table, links_held, mini_of, sound_of, stream_known}
use Rattle.cfb.specs.Writing.{StreamIsWritten}
use Rattle.cfb.specs.declared.compound_file.CompoundFile.{CompoundFile}
use Rattle.cfb.proofs.HeldLinks.{held_written}
use Rattle.cfb.proofs.Holding.{entries_hold}
use Rattle.cfb.proofs.LiveMeaning.{holds_meant}
use Rattle.cfb.proofs.StreamBytes.{bytes_held, content_len, lies_where}
use Rattle.cfb.proofs.StreamsFound.{none_ahead}

module _ {F : Type 0} {g : Ghosts F} (it : MiniAllocator F g) (id : ℕ) where
  -- links that tell of the same sectors
  links_alike : (a b : StreamLinks) → AreAlike a b → AreLinksOf id a it → AreLinksOf id b it
  links_alike (Short a) (Short b) same are e found =
      let was = are e found in (subst (λ s. StreamLiesIn it e.start e.size s) (sym same) was.0, was.1)
  links_alike (Long a) (Long b) same are e found =
      let was = are e found in (subst (λ s. StreamLiesIn it e.start e.size s) (sym same.0) was.0, (was.1.0, same.1 ∙ was.1.1))
  links_alike (Short a) (Long b) never are e found = absurd never
  links_alike (Long a) (Short b) never are e found = absurd never

alike_refl : (a : StreamLinks) → AreAlike a a
alike_refl (Short a) = refl
alike_refl (Long a) = (refl, refl)

-- the same links are alike
pub alike_same : (a b : StreamLinks) → b ≡ a → AreAlike a b
alike_same a b same = subst (AreAlike a) (sym same) (alike_refl a)

-- the answer of the rules where a stream is there
module _ (letters : CaseTable) (tree : Tree) (path : Path) where
  pub open_found : (name : List ℕ) (bits : ℕ) (bytes : List ℕ) → object_at letters tree path ≡ Some (a_stream name bits bytes) → (tree_step letters tree (open_stream path)).1 ≡ has_bytes bytes
  open_found name bits bytes at = rw at refl

module _ {F : Type 0} {g : Ghosts F} (it : CompoundFile F g) (path : Path) (tree : Tree) (id : ℕ) (content : List ℕ) (means : FileMeansTree it tree) (at : IsStreamAt (file_case_table it) (mini_of it) tree path id content)
    (e : Entry) (found : slice_get (entries_held (directory_of (mini_of it))) id ≡ Some e) where
  -- the bytes of the stream in the tree are those that its entry tells of
  bytes_meant : HasBytes (bytes_of (allocator_of (mini_of it))) (holds_meant it tree means).layout e content
  bytes_meant =
      let was = entry_of (file_case_table it) (mini_of it) tree path id content at in
      let same : was.entry ≡ e = Some_same (sym (found_at (file_case_table it) (mini_of it) tree path id content at) ∙ found) in
      let kind = subst (λ (x : Entry). x.kind ≡ kind_stream) same was.of_kind in
      let h = holds_meant it tree means in
      let held = stream_held (file_case_table it) (HasBytes (bytes_of (allocator_of (mini_of it))) h.layout) (entries_held (directory_of (mini_of it))) tree e kind (entries_hold it tree h) path id at.leads found in
      let step : (tree_step (file_case_table it) tree (open_read_stream path)).1 ≡ has_bytes content = rw at.at_path refl in
      let same_bytes : has_bytes held.bytes ≡ has_bytes content = sym held.answer ∙ step in
      let bytes : held.bytes ≡ content = cc in
      subst (λ b. HasBytes (bytes_of (allocator_of (mini_of it))) h.layout e b) bytes held.reads

  -- it lies in sectors
  pub lies_somewhere : (sectors : List ℕ) × StreamLiesIn (mini_of it) e.start e.size sectors
  lies_somewhere = let h = holds_meant it tree means in lies_where (mini_of it) h.layout h.shows h.memory e content bytes_meant

  -- and these links have its bytes
  pub links_read : (links : StreamLinks) → StreamLiesIn (mini_of it) e.start e.size (sectors_in links) → IsOfLevel (mini_of it) e.size links → lower.SectorsHaveContent (mini_of it) links e.size content
  links_read links lies level = let h = holds_meant it tree means in bytes_held (mini_of it) h.layout h.shows h.memory e links lies level h.honest content bytes_meant

  -- so many of them
  pub size_meant : (links : StreamLinks) → StreamLiesIn (mini_of it) e.start e.size (sectors_in links) → IsOfLevel (mini_of it) e.size links → e.size ≡ length content
  size_meant links lies level = sym (content_len (mini_of it) links e.size content (links_read links lies level))

  -- why no sectors were found
  pub want_so : (error : Error) → (error ≡ InvalidData → (sectors : List ℕ) → StreamLiesIn (mini_of it) e.start e.size sectors → ⊥)
      → ((error ≡ Failed) × (has_failed_here (allocator_of (mini_of it)) ≡ true)) ⊎ (error ≡ InvalidData) ⊎ (error ≡ Memory) → IsFileMemoryOrFailed it error
  want_so error never why = elim why [
    | inl failed ↦ inr failed
    | inr rest ↦ elim rest [
      | inl wrong ↦ absurd (never wrong lies_somewhere.0 lies_somewhere.1)
      | inr memory ↦ inl memory
    ]
  ]

module _ {F : Type 0} {g : Ghosts F} (it : MiniAllocator F g) (a b : CaseTable) (same : b ≡ a) (tree : Tree) where
  -- what is meant under one letter table is under the same
  means_as : live.LiveFileMeansTree a it tree → live.LiveFileMeansTree b it tree
  means_as m = record { live = m.live; orderly = m.orderly; who = m.who; owners = m.owners; sizes = m.sizes; held = subst (λ l. OwnersHoldTree (live.live_of it) m.who l tree) (sym same) m.held }

  stream_as : (path : Path) (id : ℕ) (content : List ℕ) → IsStreamAt a it tree path id content → IsStreamAt b it tree path id content
  stream_as path id content at = record {
    means = means_as at.means;
    leads = subst (λ l. LeadsTo l (entries_held (directory_of it)) 0 path id) (sym same) at.leads;
    name = at.name;
    bits = at.bits;
    at_path = subst (λ l. object_at l tree path ≡ Some (a_stream at.name at.bits content)) (sym same) at.at_path;
  }

module _ {F : Type 0} {g : Ghosts F} (it : CompoundFile F g) (path : Path) (tree : Tree) (id : ℕ) (content : List ℕ) (w : StreamIsWritten it path tree id content) where
  -- the file means the tree
  pub means_written : FileMeansTree it tree
  means_written = record { sound = w.sound; live = w.at.means; held = held_written (mini_of it) id (stream_known it) (links_held it) w.held w.links }

  -- with the same owners
  pub owners_written : (m : FileMeansTree it tree) × (m.live.who ≡ w.at.means.who)
  unfolding means_written
  owners_written = (means_written, refl)

  -- and reads the stream
  pub reads_written : FileHasStream it (length content) content
  reads_written =
      let was = entry_of (file_case_table it) (mini_of it) tree path id content w.at in
      let found = found_at (file_case_table it) (mini_of it) tree path id content w.at in
      let lies = w.links was.entry found in
      let here = links_read it path tree id content means_written w.at was.entry found (links_held it) lies.0 lies.1 in
      let size = size_meant it path tree id content means_written w.at was.entry found (links_held it) lies.0 lies.1 in
      record { lies = subst (λ n. lower.SectorsHaveContent (mini_of it) (links_held it) n content) size here; ahead = w.ahead }

module _ {F : Type 0} {g : Ghosts F} (old new : CompoundFile F g) (path : Path) (tree : Tree) (id : ℕ) (content : List ℕ) (w : StreamIsWritten old path tree id content) where
  -- LAW: a stream stays where each owner has what it had
  pub written_kept : KeepsOwnership (mini_of old) (mini_of new) → file_case_table new ≡ file_case_table old → sound_of new ≡ sound_of old → stream_known new ≡ stream_known old
      → (has_failed_here (allocator_of (mini_of new)) ≡ false → AreAlike (links_held old) (links_held new))
      → lower.IsAheadOf content (ahead_held new) → (then : StreamIsWritten new path tree id content) × (then.at.means.who ≡ w.at.means.who)
  unfolding means_as
  written_kept k letters sound known links ahead = (
    record {
      sound = sound ∙ w.sound;
      at = record {
        means = means_as (mini_of new) (file_case_table old) (file_case_table new) letters tree (means_stays (mini_of old) (mini_of new) k (file_case_table old) tree w.at.means);
        leads = subst (λ l. LeadsTo l (entries_held (directory_of (mini_of new))) 0 path id) (sym letters) (subst (λ es. LeadsTo (file_case_table old) es 0 path id) (sym k.entries) w.at.leads);
        name = w.at.name;
        bits = w.at.bits;
        at_path = subst (λ l. object_at l tree path ≡ Some (a_stream w.at.name w.at.bits content)) (sym letters) w.at.at_path;
      };
      links = links_alike (mini_of new) id (links_held old) (links_held new) (links (k.allocator.sectors.failed ∙ w.at.means.live))
          (links_kept (mini_of old) (mini_of new) k w.at.means.who.sectors w.at.means.owners id (links_held old) w.links);
      held = λ other is. w.held other (sym known ∙ is);
      ahead = ahead;
    },
    stays_owned (mini_of old) (mini_of new) k (file_case_table old) tree w.at.means,
  )

  -- LAW: one that was rewritten has its new bytes, and there are no more strays
  pub written_so : (change : List ℕ → List ℕ) → RewritesIn id change (links_held old) (links_held new) (mini_of old) (mini_of new) → file_case_table new ≡ file_case_table old → sound_of new ≡ sound_of old → stream_known new ≡ stream_known old
      → lower.ahead_of (ahead_held new) ≡ [] → (then : StreamIsWritten new path (changed (file_case_table old) (with_bytes (change content)) path tree) id (change content)) × StaysTidy (mini_of old) (mini_of new) w.at.means.who then.at.means.who
  unfolding stream_as means_as
  written_so change did letters sound known none =
      let it = did (file_case_table old) tree path content w.at w.links in
      let later = changed (file_case_table old) (with_bytes (change content)) path tree in (
        record {
          sound = sound ∙ w.sound;
          at = stream_as (mini_of new) (file_case_table old) (file_case_table new) letters later path id (change content) it.0;
          links = it.1;
          held = λ other is. w.held other (sym known ∙ is);
          ahead = none_ahead (ahead_held new) (change content) none;
        },
        it.2,
      )
