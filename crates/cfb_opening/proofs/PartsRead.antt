-- Directory, mini FAT and mini stream over tables that were read, beside any layout of the bytes.
use Rattle.std.proofs.Common.{◌≡◌, ℕ, ◌%◌, List, length, take, refl, ap, sym, subst, ◌∙◌}
use Rattle.std.specs.Prelude.{slice_get, IfSome, Some}
use Rattle.std.specs.List.{AllByRecursion}
use Rattle.cfb_medium.specs.Versions.{sector_len}
use Rattle.cfb_sectors.specs.Header.{first_difat_sector, HasFields, HeaderFields}
use Rattle.cfb_sectors.specs.Sectors.{difat, fat_in, joined, sectors_in, AreInFile, Chain}
use Rattle.cfb_sectors.specs.declared.validation.Validation.{Validation}
use Rattle.cfb_sectors.specs.declared.validation.Validation.TheVariants.{Permissive, Strict}
use Rattle.cfb_sectors.proofs.OneChain.{chain_unique, difat_unique}
use Rattle.cfb_fat.proofs.DifatChains.{stop_high}
use Rattle.cfb_tree.specs.Names.{CaseTable}
use Rattle.cfb_tree.specs.Tree.{Tree}
use Rattle.cfb_tree.specs.Directory.{entries_of, kind_root, Entry, Holds, Siblings}
use Rattle.cfb_tree.specs.Entries.{IsColored, HasSize}
use Rattle.cfb_directory.specs.Taken.{HasAny, IsTakenAs, IsTakenAsRoot, IsTakenIn}
use Rattle.cfb_spec.specs.Means.{directory, directory_count, fat, IsLaidOut, IsStrict, Layout, BytesMeanTreeBy}
use Rattle.cfb_spec.proofs.OneTree.{filled_unique}
use Rattle.cfb_opening.specs.Opened.{CanOpen}
use Rattle.cfb_opening.specs.Tables.{AreSectorTables, IsExactFor}
use Rattle.cfb_opening.proofs.CutChains.{cut_in_file, cut_of_chain}
use Rattle.cfb_opening.proofs.TablesRead.{difat_chain_of, lists_of, version_is}
use Rattle.cfb_opening.proofs.TreesTaken.{all_colored, opens_by, taken_as, OpensBy}
use Rattle.cfb_fat.proofs.CutChains.{chain_of_cut}

module _ (b : List ℕ) (h : HeaderFields) (header : HasFields h b) (ds : List ℕ) (stop : ℕ) (fs memory : List ℕ) (tables : AreSectorTables h.version b ds stop fs memory) where
  abbrev table : List ℕ
  table = fat_in h.version b fs

  abbrev count : ℕ
  count = sectors_in h.version (length b)

  -- the parts of any layout of the bytes are those that were read
  module _ (l : Layout) (a : IsLaidOut b l) where
    same_version : l.version ≡ h.version
    same_version = version_is b h header l a

    same_difat : (l.difat_sectors ≡ ds) × (l.difat_stop ≡ stop)
    same_difat = difat_unique h.version b (first_difat_sector b) l.difat_sectors ds l.difat_stop stop (stop_high l.difat_stop a.difat_end) (stop_high stop tables.stops)
        (difat_chain_of b h header l a) tables.chain

    same_fat_sectors : l.fat_sectors ≡ fs
    same_fat_sectors =
        let lists = lists_of b h header l a in
        filled_unique h.version b l.fat_sectors fs lists.unused tables.lists.unused (subst (λ v. AreInFile v b l.fat_sectors) same_version a.fat_in_file) tables.in_file
        (sym lists.entries ∙ ap (difat h.version b) same_difat.0 ∙ tables.lists.entries)

    same_fat : fat b l ≡ table
    same_fat = ap (λ v. fat_in v b l.fat_sectors) same_version ∙ ap (fat_in h.version b) same_fat_sectors

    in_memory : (start : ℕ) (ids : List ℕ) → Chain (fat b l) start ids → AreInFile l.version b ids → Chain memory start ids
    in_memory start ids chain there =
        subst (λ t. Chain t start ids) (sym tables.fat_is)
        (cut_of_chain h.version b table start ids (subst (λ v. AreInFile v b ids) same_version there) (subst (λ t. Chain t start ids) same_fat chain))

    directory_chain : Chain memory h.first_directory l.directory_sectors
    directory_chain = in_memory h.first_directory l.directory_sectors (subst (λ s. Chain (fat b l) s l.directory_sectors) header.directory a.directory_chain) a.directory_in_file

    mini_fat_chain : Chain memory h.first_mini_fat l.mini_fat_sectors
    mini_fat_chain = in_memory h.first_mini_fat l.mini_fat_sectors (subst (λ s. Chain (fat b l) s l.mini_fat_sectors) header.mini_fat a.mini_fat_chain) a.mini_fat_in_file

    same_directory : (ids : List ℕ) → Chain memory h.first_directory ids → l.directory_sectors ≡ ids
    same_directory ids chain = chain_unique memory h.first_directory l.directory_sectors ids directory_chain chain

    directory_is : directory b l ≡ entries_of h.version (joined h.version b l.directory_sectors)
    directory_is = ap (λ v. entries_of v (joined v b l.directory_sectors)) same_version

  module _ (validation : Validation) (letters : CaseTable) where
    pub directory_refused : ((ids : List ℕ) → Chain memory h.first_directory ids → (tree : Tree)
        → IsTakenAs validation letters HasAny (entries_of h.version (joined h.version b ids)) tree → ⊥) → CanOpen validation letters b → ⊥
    directory_refused refused can =
        let by = opens_by validation letters b can in
        let a = by.means.laid_out in
        refused by.l.directory_sectors (directory_chain by.l a) by.tree
        (subst (λ es. IsTakenAs validation letters HasAny es by.tree) (directory_is by.l a) (taken_as letters b by.l by.tree by.means validation by.strict))

    pub mini_refused : (directory_ids : List ℕ) (entries : List Entry) → Chain memory h.first_directory directory_ids → entries ≡ entries_of h.version (joined h.version b directory_ids)
        → ((ids stream : List ℕ) (root : Entry) → Chain memory h.first_mini_fat ids → slice_get entries 0 ≡ Some root → Chain memory root.start stream → ⊥) → CanOpen validation letters b → ⊥
    mini_refused directory_ids entries chain is refused can =
        let by = opens_by validation letters b can in
        let l = by.l in
        let a = by.means.laid_out in
        let same : directory b l ≡ entries = directory_is l a ∙ ap (λ ids. entries_of h.version (joined h.version b ids)) (same_directory l a directory_ids chain) ∙ sym is in
        refused l.mini_fat_sectors l.mini_stream_sectors l.root (mini_fat_chain l a) (subst (λ es. slice_get es 0 ≡ Some l.root) same a.root_found)
        (in_memory l a l.root.start l.mini_stream_sectors a.mini_stream_chain a.mini_stream_in_file)

    exact_of : (v : Validation) (directory_ids mini_fat_ids : List ℕ) → Chain memory h.first_directory directory_ids → Chain memory h.first_mini_fat mini_fat_ids
        → OpensBy v letters b → IsExactFor v h stop (length b) (length directory_ids) (length fs) (length mini_fat_ids) (length ds)
    exact_of Permissive directory_ids mini_fat_ids chain mini_chain by = tt
    exact_of Strict directory_ids mini_fat_ids chain mini_chain by =
        let l = by.l in
        let a = by.means.laid_out in
        let s = by.strict refl in
        record {
          directory = sym header.directory_count ∙ s.directory_count ∙ ap (λ v. directory_count v (length l.directory_sectors)) (same_version l a)
              ∙ ap (λ ids. directory_count h.version (length ids)) (same_directory l a directory_ids chain);
          fat = sym header.fat_count ∙ s.fat_count ∙ ap length (same_fat_sectors l a);
          mini_fat = sym header.mini_fat_count ∙ s.mini_fat_count ∙ ap length (chain_unique memory h.first_mini_fat l.mini_fat_sectors mini_fat_ids (mini_fat_chain l a) mini_chain);
          difat = sym header.difat_count ∙ s.difat_count ∙ ap length (same_difat l a).0;
          difat_end = sym (same_difat l a).1 ∙ s.difat_end;
          whole_sectors = ap (λ v. length b % sector_len v) (sym (same_version l a)) ∙ s.whole_sectors;
        }

    pub strict_refused : (directory_ids mini_fat_ids : List ℕ) → Chain memory h.first_directory directory_ids → Chain memory h.first_mini_fat mini_fat_ids
        → (IsExactFor validation h stop (length b) (length directory_ids) (length fs) (length mini_fat_ids) (length ds) → ⊥) → CanOpen validation letters b → ⊥
    strict_refused directory_ids mini_fat_ids chain mini_chain refused can = refused (exact_of validation directory_ids mini_fat_ids chain mini_chain (opens_by validation letters b can))

    -- the layout of what was read
    module _ (directory_ids mini_fat_ids mini_stream_ids : List ℕ) (entries : List Entry) (tree : Tree) (taken : IsTakenAs validation letters HasSize entries tree)
        (entries_are : entries ≡ entries_of h.version (joined h.version b directory_ids)) (chain : Chain memory h.first_directory directory_ids)
        (mini_chain : Chain memory h.first_mini_fat mini_fat_ids) (stream_chain : Chain memory taken.holds.root.start mini_stream_ids) where
      abbrev pub layout : Layout
      layout = record {
        version = h.version;
        difat_sectors = ds;
        difat_stop = stop;
        fat_sectors = fs;
        directory_sectors = directory_ids;
        mini_fat_sectors = mini_fat_ids;
        root = taken.holds.root;
        mini_stream_sectors = mini_stream_ids;
        entries = taken.holds.ids;
      }

      cut : (start : ℕ) (ids : List ℕ) → Chain memory start ids → Chain (take count table) start ids
      cut start ids is = subst (λ t. Chain t start ids) tables.fat_is is

      whole : (start : ℕ) (ids : List ℕ) → Chain memory start ids → Chain table start ids
      whole start ids is = chain_of_cut count table start ids (cut start ids is)

      there : (start : ℕ) (ids : List ℕ) → Chain memory start ids → AreInFile h.version b ids
      there start ids is = cut_in_file h.version b table start ids (cut start ids is)

      root_kind : (v : Validation) (e : Entry) → IsTakenAsRoot v e → e.kind ≡ kind_root
      root_kind Permissive e is = is
      root_kind Strict e is = is.0.0

      laid_out : IsLaidOut b layout
      laid_out = record {
        header = header.header;
        difat_chain = tables.chain;
        difat_end = tables.stops;
        fat_named = (tables.lists.unused, tables.lists.entries);
        fat_in_file = tables.in_file;
        directory_chain = subst (λ s. Chain table s directory_ids) (sym header.directory) (whole h.first_directory directory_ids chain);
        directory_in_file = there h.first_directory directory_ids chain;
        mini_fat_chain = subst (λ s. Chain table s mini_fat_ids) (sym header.mini_fat) (whole h.first_mini_fat mini_fat_ids mini_chain);
        mini_fat_in_file = there h.first_mini_fat mini_fat_ids mini_chain;
        root_found = subst (λ es. slice_get es 0 ≡ Some taken.holds.root) entries_are taken.holds.root_found;
        root_kind = root_kind validation taken.holds.root taken.root;
        mini_stream_chain = whole taken.holds.root.start mini_stream_ids stream_chain;
        mini_stream_in_file = there taken.holds.root.start mini_stream_ids stream_chain;
      }

      pub means : BytesMeanTreeBy layout HasSize letters b tree
      means =
          let there = taken.holds in
          record {
            laid_out = laid_out;
            facts = there.facts;
            children = there.children;
            siblings = subst (λ es. Siblings es there.root.child there.children) entries_are there.siblings;
            holds = subst (λ es. Holds es HasSize there.children tree.content there.ids) entries_are there.holds;
            once = there.once;
            ordered = there.ordered;
          }

      strict_of : (v : Validation) → IsTakenAsRoot v taken.holds.root → AllByRecursion (λ id. IfSome (slice_get entries id) (IsTakenIn v entries)) taken.holds.ids
          → IsExactFor v h stop (length b) (length directory_ids) (length fs) (length mini_fat_ids) (length ds) → v ≡ Strict → IsStrict b layout
      strict_of Permissive root below exact wrong = absurd (cc)
      strict_of Strict root below exact is = record {
        directory_count = header.directory_count ∙ exact.directory;
        fat_count = header.fat_count ∙ exact.fat;
        mini_fat_count = header.mini_fat_count ∙ exact.mini_fat;
        difat_count = header.difat_count ∙ exact.difat;
        difat_end = exact.difat_end;
        whole_sectors = exact.whole_sectors;
        root_name = root.1;
        root_color = root.0.1;
        colors = subst (λ es. AllByRecursion (IsColored es) taken.holds.ids) entries_are (all_colored entries taken.holds.ids below);
      }

      pub strict : IsExactFor validation h stop (length b) (length directory_ids) (length fs) (length mini_fat_ids) (length ds) → validation ≡ Strict → IsStrict b layout
      strict exact is = strict_of validation taken.root taken.below exact is
