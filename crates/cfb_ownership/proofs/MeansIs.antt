-- A live file that holds a tree means it.
use Rattle.std.proofs.Common.{◌≡◌, ℕ, ◌+◌, ◌*◌, ◌≤◌, List, sym, subst, ◌∙◌}
use Rattle.std.specs.Prelude.{slice_get, Some}
use Rattle.std.specs.List.{AllByRecursion}
use Rattle.cfb_sectors.specs.Sectors.{fat_in, AreInFile, Chain}
use Rattle.cfb_fat.specs.Listed.{Lists}
use Rattle.cfb_fat.specs.Orderly.{AreBelow}
use Rattle.cfb_chains.proofs.ChainWriting.{length-joined}
use Rattle.cfb_tree.specs.Names.{CaseTable}
use Rattle.cfb_tree.specs.Tree.{Tree}
use Rattle.cfb_tree.specs.Directory.{Entry, Holds, Siblings}
use Rattle.cfb_spec.specs.Means.{fat, mini_fat, HasBytes, IsInMiniStream, IsLaidOut, BytesMeanTreeBy}
use Rattle.cfb_ownership.specs.Owners.{directory_owner, first_of, mini_fat_owner, mini_stream_owner, stream_owner, Owners}
use Rattle.cfb_ownership.specs.LiveFile.{LiveFile}
use Rattle.cfb_ownership.specs.LiveInvariant.{layout_of, LiveFileInvariant}
use Rattle.cfb_ownership.specs.Held.{OwnerHasStream, OwnersHoldTree}
use Rattle.cfb_ownership.proofs.CutChains.{below_are_in_file, chain_in_file}
use Rattle.cfb_fat.proofs.ListsNow.{chain_now, entries_now, stops_now}
use Rattle.cfb_ownership.proofs.HoldsById.{holds_so}
use Rattle.cfb_fat.proofs.CutChains.{chain_of_cut}

module _ (s : LiveFile) (who : Owners) (root : Entry) (ids : List ℕ) (kept : LiveFileInvariant s who root) where
  -- an owner's sectors are a chain of the bytes' FAT, and in the file
  pub chain_is : (k start : ℕ) → start ≡ first_of (who.sectors k) → Chain (fat s.bytes (layout_of s who root ids)) start (who.sectors k)
  chain_is k start is =
      chain_of_cut s.count (fat_in s.version s.bytes s.fat_sectors) start (who.sectors k)
      (subst (λ table. Chain table start (who.sectors k)) kept.tables.same (subst (λ n. Chain s.fat n (who.sectors k)) (sym is) (kept.owned.linked k)))

  pub in_file : (k : ℕ) → AreInFile s.version s.bytes (who.sectors k)
  in_file k = chain_in_file s.version s.bytes s.fat (first_of (who.sectors k)) (who.sectors k) (kept.tables.orderly.covered ∙ kept.tables.counted) (kept.owned.linked k)

  pub in_stream : (k : ℕ) → AllByRecursion (IsInMiniStream s.bytes (layout_of s who root ids)) (who.minis k)
  in_stream k = subst (λ size. AllByRecursion (λ n. 64 * n + 64 ≤ size) (who.minis k)) (sym (length-joined s.version s.bytes (who.sectors mini_stream_owner))) (kept.minis_there k)

  pub mini_chain_is : (k start : ℕ) → start ≡ first_of (who.minis k) → Chain (mini_fat s.bytes (layout_of s who root ids)) start (who.minis k)
  mini_chain_is k start is = subst (λ table. Chain table start (who.minis k)) kept.mini_fat (subst (λ n. Chain s.mini_fat n (who.minis k)) (sym is) (kept.minis_owned.linked k))

  listed : ∥ Lists s.version s.bytes s.difat_sectors s.fat_sectors ∥₁
  listed = kept.tables.listed

  laid_out : IsLaidOut s.bytes (layout_of s who root ids)
  laid_out = record {
    header = kept.header;
    difat_chain = chain_now s.version s.bytes s.difat_sectors s.fat_sectors listed;
    difat_end = stops_now s.version s.bytes s.difat_sectors s.fat_sectors listed;
    fat_named = (_, entries_now s.version s.bytes s.difat_sectors s.fat_sectors listed);
    fat_in_file = below_are_in_file s.version s.bytes s.fat_sectors (subst (λ n. AreBelow n s.fat_sectors) kept.tables.counted kept.tables.there);
    directory_chain = chain_is directory_owner _ kept.directory_at;
    directory_in_file = in_file directory_owner;
    mini_fat_chain = chain_is mini_fat_owner _ kept.mini_fat_at;
    mini_fat_in_file = in_file mini_fat_owner;
    root_found = subst (λ all. slice_get all 0 ≡ Some root) kept.entries kept.root_found;
    root_kind = kept.root_kind;
    mini_stream_chain = chain_is mini_stream_owner root.start kept.mini_stream_at;
    mini_stream_in_file = in_file mini_stream_owner;
  }

  has_bytes : (id : ℕ) (e : Entry) (content : List ℕ) → OwnerHasStream s who id e content → HasBytes s.bytes (layout_of s who root ids) e content
  has_bytes id e content h = record {
    short = λ below. let lies = (h.short below).1 in record {
      sectors = who.minis (stream_owner id);
      chain = mini_chain_is (stream_owner id) e.start lies.start;
      in_stream = in_stream (stream_owner id);
      content_is = lies.content_is;
      whole = lies.whole;
    };
    long = λ up. let lies = (h.long up).1 in record {
      sectors = who.sectors (stream_owner id);
      chain = chain_is (stream_owner id) e.start lies.start;
      in_file = in_file (stream_owner id);
      content_is = lies.content_is;
      whole = lies.whole;
    };
  }

-- whatever is said of a stream that has its bytes in what its entry owns
pub means_by : (s : LiveFile) (who : Owners) (letters : CaseTable) (tree : Tree) (h : OwnersHoldTree s who letters tree) (Reads : Entry → List ℕ → Type 0)
    → ((id : ℕ) (e : Entry) (content : List ℕ) → OwnerHasStream s who id e content → Reads e content) → BytesMeanTreeBy (layout_of s who h.root h.ids) Reads letters s.bytes tree
means_by s who letters tree h Reads so = record {
  laid_out = laid_out s who h.root h.ids h.kept;
  facts = h.facts;
  children = h.children;
  siblings = subst (λ all. Siblings all h.root.child h.children) h.kept.entries h.siblings;
  holds = subst (λ all. Holds all Reads h.children tree.content h.ids) h.kept.entries (holds_so s.entries (OwnerHasStream s who) Reads so tree.content h.children h.ids h.holds);
  once = h.once;
  ordered = h.ordered;
}

pub means_is : (s : LiveFile) (who : Owners) (letters : CaseTable) (tree : Tree) (h : OwnersHoldTree s who letters tree)
    → BytesMeanTreeBy (layout_of s who h.root h.ids) (HasBytes s.bytes (layout_of s who h.root h.ids)) letters s.bytes tree
means_is s who letters tree h = means_by s who letters tree h (HasBytes s.bytes (layout_of s who h.root h.ids)) (has_bytes s who h.root h.ids h.kept)
