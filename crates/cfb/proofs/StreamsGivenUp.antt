-- The sectors in which a stream lay that was removed are given up.
use Rattle.std.proofs.Common.{◌≡◌, ℕ, ◌<◌, ◌≤◌, List, sym, subst}
use Rattle.cfb_chains.specs.Changes.{HaveEntry}
use Rattle.cfb_entries.specs.Rules.{names_in}
use Rattle.cfb_fat.specs.Tables.{fat_of}
use Rattle.cfb_tree_edits.proofs.Freed.{is_long, is_short, own_minis}
use Rattle.cfb_tree_edits.proofs.Standing.{stands_of}
use Rattle.cfb_tree_edits.specs.Freeing.{AreGivenUp, FreesAt}
use Rattle.cfb_tree_edits.specs.Live as live
use Rattle.cfb_tree_edits.specs.Live.{live_of}
use Rattle.cfb_medium.specs.declared.medium.ReadMedium.{Ghosts}
use Rattle.cfb_mini.specs.Views.{allocator_of, mini_fat_of}
use Rattle.cfb_mini.specs.declared.mini_allocator.MiniAllocator.{MiniAllocator}
use Rattle.cfb_ownership.specs.Held.{OwnerHasStream}
use Rattle.cfb_ownership.specs.Owners.{stream_owner}
use Rattle.cfb_sectors.specs.Header.{mini_cutoff}
use Rattle.cfb_sectors.specs.Sectors.{free, Chain}
use Rattle.cfb_stream_reads.specs.Streams.{StreamLiesIn}
use Rattle.cfb_tree.specs.Directory.{Entry}
use Rattle.cfb_tree.specs.Names.{CaseTable}
use Rattle.cfb_tree.specs.Tree.{Tree}
use Rattle.cfb.specs.FollowedRules.{FileMeansTree}
use Rattle.cfb.specs.Removing.{GivesUpStream}
use Rattle.cfb.specs.Views.{file_case_table, mini_of}
use Rattle.cfb.specs.declared.compound_file.CompoundFile.{CompoundFile}
use Rattle.cfb_sectors.proofs.OneChain.{chain_unique}

-- the sectors in which a stream lies are those that it owns
module _ {F : Type 0} {g : Ghosts F} (letters : CaseTable) (it : MiniAllocator F g) (tree : Tree) (m : live.LiveFileMeansTree letters it tree) (id : ℕ) (e : Entry) (content : List ℕ) (has : OwnerHasStream (live_of it) m.who id e content) where
  own_short : (minis : List ℕ) → StreamLiesIn it e.start e.size minis → e.size < mini_cutoff → m.who.minis (stream_owner id) ≡ minis
  own_short minis lies below =
      let s = stands_of letters it tree m in
      let at = is_short it m.who s id e content has below in
      chain_unique (mini_fat_of it) e.start (m.who.minis (stream_owner id)) minis
      (subst (λ n. Chain (mini_fat_of it) n (m.who.minis (stream_owner id))) (sym at.1) (own_minis it m.who s (stream_owner id)).linked) (lies.short below).0

  own_long : (sectors : List ℕ) → StreamLiesIn it e.start e.size sectors → mini_cutoff ≤ e.size → m.who.sectors (stream_owner id) ≡ sectors
  own_long sectors lies up =
      let table = fat_of (allocator_of it) in
      let at = is_long it m.who (stands_of letters it tree m) id e content has up in
      chain_unique table e.start (m.who.sectors (stream_owner id)) sectors
      (subst (λ n. Chain table n (m.who.sectors (stream_owner id))) (sym at.1) (m.owners.owned.linked (stream_owner id))) (lies.long up).0

pub given_up_so : {F : Type 0} {g : Ghosts F} (old new : CompoundFile F g) (text : List ℕ) (tree : Tree) (m : FileMeansTree old tree) → FreesAt (file_case_table old) (names_in text) (mini_of old) (mini_of new) m.live.who → GivesUpStream old new text
given_up_so old new text tree m f = record {
  entry = f.entry;
  at_path = record { names = f.names; found = (f.at_path, f.id, f.leads, f.found); of_kind = f.of_kind };
  short = λ minis lies below. subst (HaveEntry free (mini_fat_of (mini_of new))) (own_short (file_case_table old) (mini_of old) tree m.live f.id f.entry f.content f.has minis lies below) f.gives.in_mini_fat;
  long = λ sectors lies up. subst (λ l. AreGivenUp l (mini_of new)) (own_long (file_case_table old) (mini_of old) tree m.live f.id f.entry f.content f.has sectors lies up) f.gives.in_fat;
}
