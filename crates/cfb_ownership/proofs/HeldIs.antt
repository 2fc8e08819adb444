-- A sound file whose tables can be changed is a live file that holds its tree.
use Rattle.std.proofs.Common.{◌≡◌, ℕ, ◌+◌, ◌*◌, ◌≤◌, List, [], ◌∷◌, map, length, take, arith, zero, suc, refl, ap, sym, subst, ◌∙◌, ⊎_elim}
use Rattle.std.specs.Prelude.{slice_get, slice_range, Some, IfSome}
use Rattle.std.specs.List.{flat_map, AllByRecursion}
use Rattle.std.proofs.lemmas.Grind.{merely}
use Rattle.cfb_medium.specs.Versions.{sector_len}
use Rattle.cfb_sectors.specs.Sectors.{fat_in, joined, places, sectors_in, AreInFile}
use Rattle.cfb_sectors.proofs.OneChain.{chain_unique}
use Rattle.cfb_fat.specs.Orderly.{AreBelow, AreTablesConsistent}
use Rattle.cfb_fat.proofs.DifatChains.{in_file_below}
use Rattle.cfb_chains.proofs.ChainWriting.{length-joined}
use Rattle.cfb_medium.specs.declared.version.Version.{Version}
use Rattle.cfb_tree.specs.Names.{CaseTable}
use Rattle.cfb_tree.specs.Tree.{Tree}
use Rattle.cfb_tree.specs.Directory.{entries_of, kind_storage, kind_stream, Entry}
use Rattle.cfb_tree.proofs.OneContent.{Some_same}
use Rattle.cfb_spec.specs.Means.{directory, fat, mini_fat, HasBytes, Layout}
use Rattle.cfb_spec.specs.Sound.{in_file, EntryUses, IsSoundBy, LieInFile, Part}
use Rattle.cfb_ownership.specs.Owners.{first_of, mini_stream_owner}
use Rattle.cfb_ownership.specs.LiveFile.{live_file, HoldsTables}
use Rattle.cfb_ownership.specs.LiveInvariant.{LiveFileInvariant}
use Rattle.cfb_ownership.specs.Held.{OwnerHasStream, IsStreamAmong, OwnersHoldTree}
use Rattle.cfb_ownership.proofs.KeysOfParts.{minis_among, minis_of_map, minis_of_sectors, sectors_among, sectors_of_map, sectors_of_minis}
use Rattle.cfb_ownership.proofs.UsesOfEntries.{all_from, in_or_nothing, one_not_none, start_is, use_at}
use Rattle.cfb_ownership.proofs.HoldsById.{holds_with, kinds}
use Rattle.cfb_ownership.proofs.UsesOwned.{by_key, each_fits, minis_owned, owners_of, sectors_owned, used}

are_below : (v : Version) (b xs : List ℕ) → AreInFile v b xs → AreBelow (sectors_in v (length b)) xs
are_below v b [] there k below = absurd (omega (arith, below))
are_below v b (x ∷ xs) there zero below = in_file_below v b x there.0
are_below v b (x ∷ xs) there (suc k) below = are_below v b xs there.1 k (omega (arith, below))

module _ (bytes : List ℕ) (l : Layout) (letters : CaseTable) (tree : Tree) (h : IsSoundBy l letters bytes tree)
    (orderly : AreTablesConsistent l.version (sectors_in l.version (length bytes)) (live_file bytes l).fat l.fat_sectors l.difat_sectors) where
  abbrev own : ℕ → List Part
  own = used bytes l letters tree h

  holds_tables : HoldsTables (live_file bytes l)
  holds_tables = record {
    counted = refl;
    same = refl;
    there = are_below l.version bytes l.fat_sectors h.means.laid_out.fat_in_file;
    orderly = orderly;
    listed = merely (record {
      stop = l.difat_stop;
      stops = h.means.laid_out.difat_end;
      chain = h.means.laid_out.difat_chain;
      unused = h.means.laid_out.fat_named.0;
      entries = h.means.laid_out.fat_named.1;
    });
  }

  minis_there : (k : ℕ) → AllByRecursion (λ n. 64 * n + 64 ≤ length (sectors_among (map in_file l.mini_stream_sectors)) * sector_len l.version) (minis_among (by_key l own (suc k)))
  minis_there k = subst (λ size. AllByRecursion (λ n. 64 * n + 64 ≤ size) (minis_among (by_key l own (suc k))))
      (length-joined l.version bytes l.mini_stream_sectors ∙ ap (λ xs. length xs * sector_len l.version) (sym (sectors_of_map l.mini_stream_sectors)))
      ((each_fits bytes l letters tree h k).there)

  no_fixed_minis : (k : ℕ) → k ≤ mini_stream_owner → minis_among (by_key l own (suc k)) ≡ []
  no_fixed_minis zero few = minis_of_sectors l.directory_sectors
  no_fixed_minis (suc zero) few = minis_of_sectors l.mini_fat_sectors
  no_fixed_minis (suc (suc zero)) few = minis_of_sectors l.mini_stream_sectors
  no_fixed_minis (suc (suc (suc k))) few = absurd (omega (arith, few))

  kept_is : LiveFileInvariant (live_file bytes l) (owners_of l own) l.root
  kept_is = record {
    header = h.means.laid_out.header;
    tables = holds_tables;
    owned = sectors_owned bytes l letters tree h;
    directory_at = start_is (fat bytes l) _ l.directory_sectors h.means.laid_out.directory_chain ∙ ap first_of (sym (sectors_of_map l.directory_sectors));
    entries = ap (λ xs. entries_of l.version (joined l.version bytes xs)) (sym (sectors_of_map l.directory_sectors));
    mini_fat_at = start_is (fat bytes l) _ l.mini_fat_sectors h.means.laid_out.mini_fat_chain ∙ ap first_of (sym (sectors_of_map l.mini_fat_sectors));
    mini_fat = ap (fat_in l.version bytes) (sym (sectors_of_map l.mini_fat_sectors));
    root_found = h.means.laid_out.root_found;
    root_kind = h.means.laid_out.root_kind;
    mini_stream_at = start_is (fat bytes l) l.root.start l.mini_stream_sectors h.means.laid_out.mini_stream_chain ∙ ap first_of (sym (sectors_of_map l.mini_stream_sectors));
    minis_owned = minis_owned bytes l letters tree h;
    minis_there = minis_there;
    minis_of_streams = no_fixed_minis;
  }

  abbrev UsesAt : ℕ → Type 0
  UsesAt id = (e : Entry) × (slice_get (directory bytes l) id ≡ Some e) × EntryUses bytes l e (own id)

  has_stream : (id : ℕ) (e : Entry) (content : List ℕ) → slice_get (directory bytes l) id ≡ Some e → e.kind ≡ kind_stream → UsesAt id → HasBytes bytes l e content
      → OwnerHasStream (live_file bytes l) (owners_of l own) id e content
  has_stream id e content found is_stream (e', found', uses') has =
      let same : e' ≡ e = Some_same (sym found' ∙ found) in
      let uses : EntryUses bytes l e (own id) = subst (λ x. EntryUses bytes l x (own id)) same uses' in
      record {
        short = λ below.
            let has_use = uses.short is_stream below in
            let read = has.short below in
            let ids : read.sectors ≡ has_use.0 = chain_unique (mini_fat bytes l) e.start read.sectors has_use.0 read.chain has_use.1 in
            let mine : minis_among (own id) ≡ has_use.0 = ap minis_among has_use.2 ∙ minis_of_map has_use.0 in
            let stream_is = sectors_of_map l.mini_stream_sectors in (
              ap sectors_among has_use.2 ∙ sectors_of_minis has_use.0,
              record {
                start = start_is (mini_fat bytes l) e.start has_use.0 has_use.1 ∙ ap first_of (sym mine);
                content_is = read.content_is ∙ ap (λ xs. take e.size (flat_map (λ n. slice_range (joined l.version bytes l.mini_stream_sectors) (64 * n) (64 * n + 64)) xs)) (ids ∙ sym mine)
                    ∙ ap (λ ss. take e.size (flat_map (λ n. slice_range (joined l.version bytes ss) (64 * n) (64 * n + 64)) (minis_among (own id)))) (sym stream_is);
                whole = read.whole;
                there = subst (λ ss. LieInFile bytes e (flat_map (λ n. slice_range (places l.version ss) (64 * n) (64 * n + 64)) (minis_among (own id)))) (sym stream_is)
                    (subst (λ xs. LieInFile bytes e (flat_map (λ n. slice_range (places l.version l.mini_stream_sectors) (64 * n) (64 * n + 64)) xs)) (sym mine) has_use.3);
              },
            );
        long = λ up.
            let has_use = uses.long is_stream up in
            let read = has.long up in
            let ids : read.sectors ≡ has_use.0 = chain_unique (fat bytes l) e.start read.sectors has_use.0 read.chain has_use.1 in
            let mine : sectors_among (own id) ≡ has_use.0 = ap sectors_among has_use.2 ∙ sectors_of_map has_use.0 in (
              ap minis_among has_use.2 ∙ minis_of_sectors has_use.0,
              record {
                start = start_is (fat bytes l) e.start has_use.0 has_use.1 ∙ ap first_of (sym mine);
                content_is = read.content_is ∙ ap (λ xs. take e.size (joined l.version bytes xs)) (ids ∙ sym mine);
                whole = read.whole;
                there = subst (λ xs. LieInFile bytes e (places l.version xs)) (sym mine) has_use.3;
              },
            );
      }

  idle : (id : ℕ) → (IsStreamAmong (directory bytes l) l.entries id → ⊥) → own id ≡ []
  idle id never = ⊎_elim
      (λ one.
      let at = use_at bytes l l.entries h.uses.0 h.uses.1 id one in
      let kind = kinds (directory bytes l) (HasBytes bytes l) tree.content h.means.children l.entries h.means.holds id one in
      let same : kind.0 ≡ at.0 = Some_same (sym kind.1 ∙ at.1) in
      ⊎_elim
      (λ is_storage. at.2.storage (subst (λ e. e.kind ≡ kind_storage) same is_storage))
      (λ is_stream. absurd (never (one_not_none l.entries id one, subst (λ o. IfSome o (λ e. e.kind ≡ kind_stream)) (sym kind.1) is_stream)))
      kind.2)
      (λ none. none)
      (in_or_nothing bytes l l.entries h.uses.0 h.uses.1 id)

  pub held_is : OwnersHoldTree (live_file bytes l) (owners_of l own) letters tree
  held_is = record {
    root = l.root;
    kept = kept_is;
    facts = h.means.facts;
    children = h.means.children;
    ids = l.entries;
    siblings = h.means.siblings;
    holds = holds_with (directory bytes l) (HasBytes bytes l) (OwnerHasStream (live_file bytes l) (owners_of l own)) UsesAt has_stream tree.content h.means.children l.entries
        (all_from UsesAt l.entries (use_at bytes l l.entries h.uses.0 h.uses.1)) h.means.holds;
    once = h.means.once;
    ordered = h.means.ordered;
    unused = λ id never. let none = idle id never in (ap sectors_among none, ap minis_among none);
  }
