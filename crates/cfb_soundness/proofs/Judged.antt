-- A file is sound exactly where it is judged so.
use Rattle.std.proofs.Common.{◌≡◌, ℕ, ◌<◌, ◌≤◌, inl, inr, false, List, [], ◌∷◌, ◌++◌, length, map, take, replicate, zero, suc, refl, ap, sym, subst, ◌∙◌, arith, length-take}
use Rattle.std.specs.Prelude.{slice_get, Some}
use Rattle.std.specs.List.{AllByRecursion}
use Rattle.std.specs.List.Sorted.{IsStrictlySortedBy}
use Rattle.std.proofs.lemmas.List.{length-replicate}
use Rattle.std.proofs.lemmas.Option.{slice_get_within}
use Rattle.cfb_medium.specs.declared.version.Version.{Version}
use Rattle.cfb_sectors.specs.Sectors.{sectors_in}
use Rattle.cfb_fat.proofs.DifatChains.{below_in_file, in_file_below}
use Rattle.cfb_tree.specs.Names.{name_cmp, CaseTable}
use Rattle.cfb_tree.specs.Tree.{nothing, storage, stream, Content, Tree}
use Rattle.cfb_tree.specs.Directory.{kind_stream, Entry, Holds, Siblings}
use Rattle.cfb_tree.proofs.NamesRead.{all_append}
use Rattle.cfb_tree.proofs.OneContent.{siblings_unique, Some_same}
use Rattle.cfb_spec.specs.Means.{directory, fat, mini_fat, HasBytes, Layout, BytesMeanTreeBy}
use Rattle.cfb_spec.specs.Sound.{in_file, in_mini_stream, AreApart, IsSoundContainer, IsSoundBy, IsUsablePart, Part, TreeUses}
use Rattle.cfb_spec.proofs.OneTree.{directory_same, layout_same, root_same}
use Rattle.cfb_soundness.specs.Marks.{mark, times, CanTake}
use Rattle.cfb_soundness.specs.Uses.{AreInUse, EntriesHave, SectorTables}
use Rattle.cfb_soundness.proofs.Taking.{all_front}
use Rattle.cfb_soundness.proofs.Refilling.{entries_same, refilled}
use Rattle.cfb_ownership.proofs.KeysOfParts.{minis_among, minis_of_sectors, sectors_among, sectors_of_map}
use Rattle.cfb_soundness.proofs.PartsOnce.{apart_from_once, minis_append, once_from_apart, sectors_append}
use Rattle.cfb_soundness.proofs.Telling.{entry_has, entry_told, sectors_usable, told, usable_chain, usable_from_use, usable_sectors, use_from_usable, HasKind, IsUsableSector}

-- what judging finds of a sound file: the FAT covers its sectors, the tables' own are in use, the tree's entries have what they
-- use, and no sector or mini sector serves two uses
pub record Judged (t : SectorTables) (count : ℕ) (fat_sectors difat_sectors tables ids : List ℕ) : Type 0 where
  pub covers : count ≤ length t.fat
  pub fat_used : AreInUse t.fat fat_sectors
  pub difat_used : AreInUse t.fat difat_sectors
  pub sectors : List ℕ
  pub minis : List ℕ
  pub have : EntriesHave t ids sectors minis
  pub can : CanTake (tables ++ sectors) (replicate count false)
  pub can_minis : CanTake minis (replicate (length t.mini_fat) false)

no_mark : (count n : ℕ) → mark (replicate count false) n ≡ 0
no_mark zero n = refl
no_mark (suc count) zero = refl
no_mark (suc count) (suc n) = no_mark count n

module _ (bytes : List ℕ) (l : Layout) where
  abbrev count : ℕ
  count = sectors_in l.version (length bytes)

  abbrev cut : List ℕ
  cut = take count (fat bytes l)

  abbrev tables : List ℕ
  tables = l.fat_sectors ++ l.difat_sectors ++ l.directory_sectors ++ l.mini_fat_sectors ++ l.mini_stream_sectors

  abbrev IsJudged : Type 0
  IsJudged = Judged (told bytes l) count l.fat_sectors l.difat_sectors tables l.entries

  -- each entry that holds a content is a storage, or a stream that has bytes
  each_kind : (Reads : Entry → List ℕ → Type 0) (content : Content) (ids all : List ℕ) → Holds (directory bytes l) Reads ids content all → AllByRecursion (HasKind bytes l Reads) all
  each_kind Reads nothing ids all (none, is) = subst (AllByRecursion (HasKind bytes l Reads)) (sym is) tt
  each_kind Reads (stream name bits content later) ids all (e, id, others, rest, is, whole, at, reads, then) =
      subst (AllByRecursion (HasKind bytes l Reads)) (sym whole) ((e, at.found, inr (at.of_kind, content, reads)), each_kind Reads later others rest then)
  each_kind Reads (storage name facts inside later) ids all (e, id, others, children, within, rest, is, whole, at, siblings, in_it, then) =
      subst (AllByRecursion (HasKind bytes l Reads)) (sym whole)
      ((e, at.found, inl at.of_kind), all_append (HasKind bytes l Reads) within rest (each_kind Reads inside children within in_it) (each_kind Reads later others rest then))

  -- what the entries use, as parts
  record Streams (ids sectors minis : List ℕ) : Type 0 where
    pub parts : List Part
    pub uses : TreeUses bytes l ids parts
    pub sectors_are : sectors_among parts ≡ sectors
    pub minis_are : minis_among parts ≡ minis
    pub usable : AllByRecursion (IsUsablePart bytes l) parts
    pub has : AllByRecursion (λ id. (e : Entry) → slice_get (directory bytes l) id ≡ Some e → e.kind ≡ kind_stream → (content : List ℕ) × HasBytes bytes l e content) ids

  streams_told : (ids sectors minis : List ℕ) → EntriesHave (told bytes l) ids sectors minis → Streams ids sectors minis
  streams_told [] sectors minis (no_sectors, no_minis) = record { parts = []; uses = refl; sectors_are = sym no_sectors; minis_are = sym no_minis; usable = tt; has = tt }
  streams_told (id ∷ ids) sectors minis (own, rest, own_minis, rest_minis, here, later, is, minis_is) =
      let one = entry_told bytes l id own own_minis here in
      let more = streams_told ids rest rest_minis later in
      record {
        parts = one.parts ++ more.parts;
        uses = (one.entry, one.parts, more.parts, one.found, one.uses, more.uses, refl);
        sectors_are = sectors_append one.parts more.parts ∙ ap (λ xs. xs ++ sectors_among more.parts) one.sectors_are ∙ ap (λ xs. own ++ xs) more.sectors_are ∙ sym is;
        minis_are = minis_append one.parts more.parts ∙ ap (λ xs. xs ++ minis_among more.parts) one.minis_are ∙ ap (λ xs. own_minis ++ xs) more.minis_are ∙ sym minis_is;
        usable = all_append (IsUsablePart bytes l) one.parts more.parts one.usable more.usable;
        has = (λ e found is_stream. subst (λ (x : Entry). x.kind ≡ kind_stream → (content : List ℕ) × HasBytes bytes l x content) (Some_same (sym one.found ∙ found)) one.has is_stream, more.has);
      }

  -- and back
  entries_have : (ids : List ℕ) (parts : List Part) → TreeUses bytes l ids parts → AllByRecursion (HasKind bytes l (HasBytes bytes l)) ids → AllByRecursion (IsUsablePart bytes l) parts
      → EntriesHave (told bytes l) ids (sectors_among parts) (minis_among parts)
  entries_have [] parts none kinds usable = (ap sectors_among none, ap minis_among none)
  entries_have (id ∷ ids) parts (e, own, others, found, uses, rest, is) kinds usable =
      let both = all_front (IsUsablePart bytes l) own others (subst (AllByRecursion (IsUsablePart bytes l)) is usable) in (
        sectors_among own,
        sectors_among others,
        minis_among own,
        minis_among others,
        entry_has bytes l id e own found uses kinds.0 both.0,
        entries_have ids others rest kinds.1 both.1,
        ap sectors_among is ∙ sectors_append own others,
        ap minis_among is ∙ minis_append own others,
      )

  module _ (letters : CaseTable) (tree : Tree) (Reads : Entry → List ℕ → Type 0) (m : BytesMeanTreeBy l Reads letters bytes tree) where
    -- what is judged to be sound is sound
    pub sound_from_judged : IsJudged → IsSoundContainer letters bytes
    sound_from_judged j =
        let streams = streams_told l.entries j.sectors j.minis j.have in
        let filled = refilled letters (directory bytes l) Reads (HasBytes bytes l) tree.content m.children l.entries m.holds streams.has in
        let fixed : AllByRecursion (IsUsableSector bytes l) tables =
        let P = IsUsableSector bytes l in
        all_append P (l.fat_sectors ++ l.difat_sectors ++ l.directory_sectors ++ l.mini_fat_sectors) l.mini_stream_sectors
        (all_append P (l.fat_sectors ++ l.difat_sectors ++ l.directory_sectors) l.mini_fat_sectors
        (all_append P (l.fat_sectors ++ l.difat_sectors) l.directory_sectors
        (all_append P l.fat_sectors l.difat_sectors (usable_from_use bytes l l.fat_sectors j.fat_used) (usable_from_use bytes l l.difat_sectors j.difat_used))
        (usable_chain bytes l _ l.directory_sectors m.laid_out.directory_chain m.laid_out.directory_in_file))
        (usable_chain bytes l _ l.mini_fat_sectors m.laid_out.mini_fat_chain m.laid_out.mini_fat_in_file))
        (usable_chain bytes l _ l.mini_stream_sectors m.laid_out.mini_stream_chain m.laid_out.mini_stream_in_file) in
        let all_sectors : sectors_among (map in_file tables ++ streams.parts) ≡ tables ++ j.sectors =
        sectors_append (map in_file tables) streams.parts ∙ ap (λ xs. xs ++ sectors_among streams.parts) (sectors_of_map tables) ∙ ap (λ xs. tables ++ xs) streams.sectors_are in
        let all_minis : minis_among (map in_file tables ++ streams.parts) ≡ j.minis =
        minis_append (map in_file tables) streams.parts ∙ ap (λ xs. xs ++ minis_among streams.parts) (minis_of_sectors tables) ∙ streams.minis_are in
        let tree' : Tree = record { root = tree.root; content = filled.other } in (
          l,
          tree',
          record {
            means = record {
              laid_out = m.laid_out;
              facts = m.facts;
              children = m.children;
              siblings = m.siblings;
              holds = filled.holds;
              once = m.once;
              ordered = (subst (IsStrictlySortedBy (name_cmp letters)) (sym filled.names) m.ordered.0, filled.ordered m.ordered.1);
            };
            parts = map in_file tables ++ streams.parts;
            uses = (streams.parts, streams.uses, refl);
            apart = apart_from_once (map in_file tables ++ streams.parts)
                (λ n. subst (λ xs. times n xs ≤ 1) (sym all_sectors) (omega (arith, j.can.once n)))
                (λ n. subst (λ xs. times n xs ≤ 1) (sym all_minis) (omega (arith, j.can_minis.once n)));
            usable = all_append (IsUsablePart bytes l) (map in_file tables) streams.parts (usable_sectors bytes l tables fixed) streams.usable;
            covered = λ n there. let below = in_file_below l.version bytes n there in omega (arith, below, j.covers, length-take count (fat bytes l));
          },
        )

  -- a sound file is judged so
  pub judged_from_sound : (letters : CaseTable) (tree : Tree) → IsSoundBy l letters bytes tree → IsJudged
  judged_from_sound letters tree s =
      let streams = s.uses.0 in
      let P = IsUsableSector bytes l in
      let parts = all_front (IsUsablePart bytes l) (map in_file tables) streams (subst (AllByRecursion (IsUsablePart bytes l)) s.uses.2 s.usable) in
      let fixed = sectors_usable bytes l tables parts.0 in
      let four = all_front P (l.fat_sectors ++ l.difat_sectors ++ l.directory_sectors ++ l.mini_fat_sectors) l.mini_stream_sectors fixed in
      let three = all_front P (l.fat_sectors ++ l.difat_sectors ++ l.directory_sectors) l.mini_fat_sectors four.0 in
      let two = all_front P (l.fat_sectors ++ l.difat_sectors) l.directory_sectors three.0 in
      let each = all_front P l.fat_sectors l.difat_sectors two.0 in
      let apart : AreApart (map in_file tables ++ streams) = subst AreApart s.uses.2 s.apart in
      let all_sectors : sectors_among (map in_file tables ++ streams) ≡ tables ++ sectors_among streams =
      sectors_append (map in_file tables) streams ∙ ap (λ xs. xs ++ sectors_among streams) (sectors_of_map tables) in
      let all_minis : minis_among (map in_file tables ++ streams) ≡ minis_among streams =
      minis_append (map in_file tables) streams ∙ ap (λ xs. xs ++ minis_among streams) (minis_of_sectors tables) in
      record {
        covers = covering;
        fat_used = use_from_usable bytes l l.fat_sectors each.0;
        difat_used = use_from_usable bytes l l.difat_sectors each.1;
        sectors = sectors_among streams;
        minis = minis_among streams;
        have = entries_have l.entries streams s.uses.1 (each_kind (HasBytes bytes l) tree.content s.means.children l.entries s.means.holds) parts.1;
        can = record {
          there = subst (AllByRecursion (λ n. n < length (replicate count false))) all_sectors (there (map in_file tables ++ streams) (subst (AllByRecursion (IsUsablePart bytes l)) s.uses.2 s.usable));
          once = λ n. omega (arith, subst (λ xs. times n xs ≤ 1) all_sectors (once_from_apart (map in_file tables ++ streams) apart n).0, no_mark count n);
        };
        can_minis = record {
          there = minis_there streams parts.1;
          once = λ n. omega (arith, subst (λ xs. times n xs ≤ 1) all_minis (once_from_apart (map in_file tables ++ streams) apart n).1, no_mark (length (mini_fat bytes l)) n);
        };
      }
    where
      covers_from : (n : ℕ) → n ≡ count → n ≤ length cut
      covers_from zero is = omega arith
      covers_from (suc n) is =
          let inside = s.covered n (below_in_file l.version bytes n (omega (arith, is))) in
          omega (arith, inside, is, length-take count (fat bytes l))

      covering : count ≤ length cut
      covering = covers_from count refl

      there : (parts : List Part) → AllByRecursion (IsUsablePart bytes l) parts → AllByRecursion (λ n. n < length (replicate count false)) (sectors_among parts)
      there [] usable = tt
      there (in_file n ∷ parts) usable = (subst (λ k. n < k) (sym (length-replicate count false)) (in_file_below l.version bytes n usable.0.0), there parts usable.1)
      there (in_mini_stream n ∷ parts) usable = there parts usable.1

      minis_there : (parts : List Part) → AllByRecursion (IsUsablePart bytes l) parts → AllByRecursion (λ n. n < length (replicate (length (mini_fat bytes l)) false)) (minis_among parts)
      minis_there [] usable = tt
      minis_there (in_file n ∷ parts) usable = minis_there parts usable.1
      minis_there (in_mini_stream n ∷ parts) usable =
          (subst (λ k. n < k) (sym (length-replicate (length (mini_fat bytes l)) false)) (slice_get_within (mini_fat bytes l) n usable.0.1 usable.0.2), minis_there parts usable.1)

  -- under the layout that the file has
  pub sound_is_judged : (letters : CaseTable) (tree : Tree) (Reads : Entry → List ℕ → Type 0) → BytesMeanTreeBy l Reads letters bytes tree → IsSoundContainer letters bytes → IsJudged
  sound_is_judged letters tree Reads m (k, other, s) =
      let dirs = directory_same bytes l k m.laid_out s.means.laid_out in
      let roots = root_same bytes l k m.laid_out s.means.laid_out in
      let siblings : Siblings (directory bytes l) l.root.child s.means.children =
      subst (λ r. Siblings (directory bytes l) r.child s.means.children) roots
      (subst (λ d. Siblings d k.root.child s.means.children) dirs s.means.siblings) in
      let children : s.means.children ≡ m.children = siblings_unique siblings m.siblings in
      let holds : Holds (directory bytes l) (HasBytes bytes k) m.children other.content k.entries =
      subst (λ ids. Holds (directory bytes l) (HasBytes bytes k) ids other.content k.entries) children
      (subst (λ d. Holds d (HasBytes bytes k) s.means.children other.content k.entries) dirs s.means.holds) in
      let entries = entries_same letters (directory bytes l) (HasBytes bytes k) Reads other.content tree.content m.children k.entries l.entries holds m.holds in
      let same = layout_same bytes l k m.laid_out s.means.laid_out entries in
      judged_from_sound letters other (subst (λ (x : Layout). IsSoundBy x letters bytes other) same s)

pub moved : (t u : SectorTables) (c d : ℕ) (fs fs' ds ds' ts ts' ids ids' : List ℕ) → t ≡ u → c ≡ d → fs ≡ fs' → ds ≡ ds' → ts ≡ ts' → ids ≡ ids'
    → Judged t c fs ds ts ids → Judged u d fs' ds' ts' ids'
moved t u c d fs fs' ds ds' ts ts' ids ids' t_is c_is fs_is ds_is ts_is ids_is j =
    subst (λ x. Judged u d fs' ds' ts' x) ids_is (subst (λ x. Judged u d fs' ds' x ids) ts_is (subst (λ x. Judged u d fs' x ts ids) ds_is
    (subst (λ x. Judged u d x ds ts ids) fs_is (subst (λ x. Judged u x fs ds ts ids) c_is (subst (λ x. Judged x c fs ds ts ids) t_is j)))))

pub tables_same : (t u : SectorTables) → t.version ≡ u.version → t.fat ≡ u.fat → t.mini_fat ≡ u.mini_fat → t.mini_stream ≡ u.mini_stream → t.mini_len ≡ u.mini_len
    → t.entries ≡ u.entries → t.file_len ≡ u.file_len → t ≡ u
tables_same t u a b c d e f g =
    let made = λ (v : Version) (fat mini_fat stream : List ℕ) (len : ℕ) (entries : List Entry) (file_len : ℕ).
    let one : SectorTables = record { version = v; fat = fat; mini_fat = mini_fat; mini_stream = stream; mini_len = len; entries = entries; file_len = file_len } in one in
    ap (λ v. made v t.fat t.mini_fat t.mini_stream t.mini_len t.entries t.file_len) a
    ∙ ap (λ x. made u.version x t.mini_fat t.mini_stream t.mini_len t.entries t.file_len) b
    ∙ ap (λ x. made u.version u.fat x t.mini_stream t.mini_len t.entries t.file_len) c
    ∙ ap (λ x. made u.version u.fat u.mini_fat x t.mini_len t.entries t.file_len) d
    ∙ ap (λ x. made u.version u.fat u.mini_fat u.mini_stream x t.entries t.file_len) e
    ∙ ap (λ x. made u.version u.fat u.mini_fat u.mini_stream u.mini_len x t.file_len) f
    ∙ ap (λ x. made u.version u.fat u.mini_fat u.mini_stream u.mini_len u.entries x) g
