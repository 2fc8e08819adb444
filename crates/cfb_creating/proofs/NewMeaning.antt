-- What the bytes of a new file mean.
use Rattle.std.proofs.Common.{◌≡◌, ℕ, ◌*◌, ◌≤◌, List, [], ◌∷◌, ◌++◌, length, refl, ap, sym, subst, ◌∙◌, arith, length-append, inl}
use Rattle.std.specs.Prelude.{slice_get, Some, nat_eq, ⊤}
use Rattle.std.specs.List.{IsDistinct}
use Rattle.std.specs.List.Sorted.{IsStrictlySortedBy}
use Rattle.std.proofs.lemmas.List.{append-nil}
use Rattle.cfb_medium.specs.declared.version.Version.{Version}
use Rattle.cfb_medium.specs.Numbers.{numbers}
use Rattle.cfb_medium.specs.Versions.{sector_len}
use Rattle.cfb_sectors.specs.Header.{header_difat, IsHeader}
use Rattle.cfb_sectors.specs.Sectors.{end_of_chain, fat_sector, Chain, IsInFile}
use Rattle.cfb_tree.specs.Directory.{Entry, none, entries_of}
use Rattle.cfb_tree.specs.Entries.{empty_root}
use Rattle.cfb_tree.specs.Names.{CaseTable}
use Rattle.cfb_tree.specs.Tree.{nothing, IsOrdered}
use Rattle.cfb_spec.specs.Means.{directory, fat, HasBytes, IsLaidOut, IsOpenable, IsStrict, IsStrictlyOpenable, Layout, BytesMeanTree, BytesMeanTreeBy}
use Rattle.cfb_spec.specs.Sound.{in_file, in_mini_stream, IsSoundContainer, Part}
use Rattle.cfb_creating.specs.NewFile.{empty_tree, new_fat, new_file, new_header}
use Rattle.cfb_creating.proofs.NewBytes.{directory_joined, fields, length-new_fat, length-new_file, long_enough, numbers_read, table_joined, three_whole, two_in_three}
use Rattle.cfb_creating.proofs.NewEntries.{directory_read, root_named}

nothing_ordered : (letters : CaseTable) → IsOrdered letters nothing
unfolding IsStrictlySortedBy
nothing_ordered letters = (tt, tt)

root_once : IsDistinct nat_eq (0 ∷ [])
unfolding IsDistinct
root_once = (tt, tt)

abbrev number : Part → ℕ
number (in_file n) = n
number (in_mini_stream n) = n

module _ (v : Version) (behind : List ℕ) where
  abbrev bytes : List ℕ
  bytes = new_file v ++ behind

  -- where its parts lie
  abbrev lay : Layout
  lay = record {
    version = v;
    difat_sectors = [];
    difat_stop = end_of_chain;
    fat_sectors = 0 ∷ [];
    directory_sectors = 1 ∷ [];
    mini_fat_sectors = [];
    root = empty_root;
    mini_stream_sectors = [];
    entries = [];
  }

  fat_is : fat bytes lay ≡ new_fat v
  fat_is = ap numbers (table_joined v behind) ∙ numbers_read v

  fat_at : (slice_get (fat bytes lay) 0 ≡ Some fat_sector) × (slice_get (fat bytes lay) 1 ≡ Some end_of_chain)
  unfolding new_fat
  fat_at = (ap (λ t. slice_get t 0) fat_is, ap (λ t. slice_get t 1) fat_is)

  root_at : slice_get (directory bytes lay) 0 ≡ Some empty_root
  root_at = ap (λ d. slice_get (entries_of v d) 0) (directory_joined v behind) ∙ ap (λ es. slice_get es 0) (directory_read v)

  long : 3 * sector_len v ≤ length bytes
  long = let all = length-append (new_file v) behind in let own = length-new_file v in omega (arith, all, own)

  there_0 : IsInFile v bytes 0
  there_0 = (omega arith, let all = long in let some = long_enough v in omega (arith, all, some))

  there_1 : IsInFile v bytes 1
  there_1 = (omega arith, let all = long in let some = long_enough v in omega (arith, all, some))

  laid_out : IsLaidOut bytes lay
  unfolding new_header
  laid_out =
      let read = fields v behind in
      let at = fat_at in
      record {
        header = read.header;
        difat_chain = read.difat_start;
        difat_end = inl refl;
        fat_named = (108, append-nil (header_difat bytes) ∙ read.difat);
        fat_in_file = (there_0, tt);
        directory_chain = subst (λ n. Chain (fat bytes lay) n (1 ∷ [])) (sym read.directory) (refl, omega arith, end_of_chain, at.1, refl);
        directory_in_file = (there_1, tt);
        mini_fat_chain = read.mini_fat;
        mini_fat_in_file = tt;
        root_found = root_at;
        root_kind = refl;
        mini_stream_chain = refl;
        mini_stream_in_file = tt;
      }

  means_by : (Reads : Entry → List ℕ → Type 0) (letters : CaseTable) → BytesMeanTreeBy lay Reads letters bytes empty_tree
  means_by Reads letters = record {
    laid_out = laid_out;
    facts = refl;
    children = [];
    siblings = none refl refl;
    holds = (refl, refl);
    once = root_once;
    ordered = nothing_ordered letters;
  }

  pub is_header : IsHeader v bytes
  unfolding new_header
  is_header = (fields v behind).header

  pub new_means : (letters : CaseTable) → BytesMeanTree letters bytes empty_tree
  new_means letters = (lay, means_by (HasBytes bytes lay) letters)

  pub new_opens : (letters : CaseTable) → IsOpenable letters bytes
  new_opens letters = (lay, empty_tree, means_by (λ e content. ⊤) letters)

  whole : behind ≡ [] → length bytes ≡ 3 * sector_len v
  whole last = ap (λ xs. length (new_file v ++ xs)) last ∙ ap length (append-nil (new_file v)) ∙ length-new_file v

  strict_by : behind ≡ [] → IsStrict bytes lay
  unfolding new_header
  strict_by last =
      let read = fields v behind in
      record {
        directory_count = read.directory_count;
        fat_count = read.fat_count;
        mini_fat_count = read.mini_fat_count;
        difat_count = read.difat_count;
        difat_end = refl;
        whole_sectors = three_whole v (length bytes) (whole last);
        root_name = root_named;
        root_color = refl;
        colors = tt;
      }

  strict_so : (letters : CaseTable) → behind ≡ [] → IsStrictlyOpenable letters bytes
  strict_so letters last = (lay, empty_tree, means_by (λ e content. ⊤) letters, strict_by last)

  sound_so : (letters : CaseTable) → behind ≡ [] → IsSoundContainer letters bytes
  sound_so letters last =
      let at = fat_at in (
        lay,
        empty_tree,
        record {
          means = means_by (HasBytes bytes lay) letters;
          parts = in_file 0 ∷ in_file 1 ∷ [];
          uses = ([], refl, refl);
          apart = ((λ e. let n : 0 ≡ 1 = ap number e in absurd (omega (arith, n)), tt), (tt, tt));
          usable = (
            (there_0, fat_sector, at.0, λ e. omega (arith, e)),
            ((there_1, end_of_chain, at.1, λ e. omega (arith, e)), tt),
          );
          covered = λ n inside.
              let less = two_in_three v n (length bytes) (whole last) inside.1 in
              let long = ap length fat_is ∙ length-new_fat v in
              omega (arith, less, long);
        },
      )

module _ (v : Version) (letters : CaseTable) where
  pub new_sound : IsSoundContainer letters (new_file v)
  new_sound = subst (IsSoundContainer letters) (append-nil (new_file v)) (sound_so v [] letters refl)

  pub new_strict : IsStrictlyOpenable letters (new_file v)
  new_strict = subst (IsStrictlyOpenable letters) (append-nil (new_file v)) (strict_so v [] letters refl)
