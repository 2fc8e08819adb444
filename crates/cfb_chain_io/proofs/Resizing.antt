-- What a new length leaves of a chain, and of what others own.
use Rattle.std.proofs.Common.{◌≡◌, ℕ, ◌-◌, ◌*◌, ◌≤◌, false, List, [], ◌++◌, length, take, drop, ap, sym, subst, ◌∙◌, arith, append-nil, length-append, IsTrue}
use Rattle.std.specs.Prelude.{slice_index_or, Result, Ok, Err, OnOk}
use Rattle.std.proofs.lemmas.List.{take_all}
use Rattle.cfb_medium.specs.Versions.{sector_len}
use Rattle.cfb_medium.specs.declared.medium.ReadMedium.{Ghosts}
use Rattle.cfb_medium.specs.declared.version.Version.{Version}
use Rattle.cfb_sectors.specs.Copies.{copies}
use Rattle.cfb_sectors.specs.Initial.{initial, padded}
use Rattle.cfb_sectors.specs.Sectors.{end_of_chain, free, joined, sector}
use Rattle.cfb_sectors.specs.declared.initial.SectorInit.{SectorInit}
use Rattle.cfb_chains.specs.Changes.{AreSubsetOf, AreDisjoint, HaveEntry}
use Rattle.cfb_chains.specs.Grown.{AreSectorsWritable, IsChainInTable}
use Rattle.cfb_chains.specs.LinkViews.{ids_of, links_version}
use Rattle.cfb_chains.specs.Owned.{ReplacesChain, ChangesAtMost}
use Rattle.cfb_chains.specs.declared.links.Links.{Links}
use Rattle.cfb_chains.proofs.Beside.{none_second}
use Rattle.cfb_chains.proofs.ChainGrowing.{among_both, among_more}
use Rattle.cfb_chains.proofs.Owners.{leaves_more}
use Rattle.cfb_fat.specs.declared.allocator.Allocator.{Allocator}
use Rattle.cfb_fat.specs.Changing.{ChangesFat, MayWrite}
use Rattle.cfb_fat.specs.Growing.{AllocatesSectors}
use Rattle.cfb_fat.specs.Seeing.{seen_of}
use Rattle.cfb_fat.specs.Tables.{bytes_of, fat_of, has_failed_here, is_honest, tables_of, version_of}
use Rattle.cfb_chains.specs.Behind.{AreWhole}
use Rattle.cfb_fat.proofs.Leaving.{changes_leave, takes_leave}
use Rattle.cfb_fat.proofs.Using.{among_same}
use Rattle.cfb_chain_io.specs.ChainEffects.{HasDataChain, Resizes, TakesBytes}
use Rattle.cfb_chain_io.proofs.Owning.{among_start, chain_writable, none_behind_all, none_dropped, writable_beside}

pub on_ok_both : {T E : Type 0} (r : Result T E) (X Y : Type 0) → OnOk r X → OnOk r Y → OnOk r (X × Y)
on_ok_both (Ok x) X Y h k = (h, k)
on_ok_both (Err e) X Y h k = tt

module _ {F : Type 0} {g : Ghosts F} where
  -- the same over lists: of a chain of these sectors, which were those; what it took in holds what is said of so many sectors
  abbrev pub Resized : (ℕ → ℕ → List ℕ) → ℕ → Allocator F g → Version → List ℕ → Allocator F g → List ℕ → Type 0
  Resized held count a v s b t =
      IsTrue (is_honest a) → version_of a ≡ v → IsChainInTable (fat_of a) s → AreDisjoint (tables_of a) s
      → (more : List ℕ) × (t ≡ take count s ++ more) × (version_of b ≡ v) × IsTrue (is_honest b) × AreDisjoint (tables_of b) t × ReplacesChain (sector v) [] s more t (seen_of a) (seen_of b) × HaveEntry free (fat_of b) (drop count s)
      × AreWhole v (bytes_of b) more × (joined v (bytes_of b) t ≡ joined v (bytes_of a) (take count s) ++ held (length more) (sector_len v))

  pub resized_longer : (held : ℕ → ℕ → List ℕ) (count : ℕ) (a b : Allocator F g) (v : Version) (s t more changed : List ℕ) → length s ≤ count → has_failed_here a ≡ false → has_failed_here b ≡ false → t ≡ s ++ more → AllocatesSectors more changed a b
      → (IsChainInTable (fat_of a) s → AreSubsetOf t changed) → (IsChainInTable (fat_of a) s → IsChainInTable (fat_of b) t) → (version_of a ≡ v → AreSectorsWritable (MayWrite a) v s → AreSectorsWritable (MayWrite b) v t)
      → (IsTrue (is_honest a) → version_of a ≡ v → IsChainInTable (fat_of a) s → AreSectorsWritable (MayWrite a) v s → joined v (bytes_of b) t ≡ joined v (bytes_of a) s ++ held (length t - length s) (sector_len v))
      → Resized held count a v s b t
  unfolding seen_of
  resized_longer held count a b v s t more changed few was live is takes among linked writable filled honest same has beside =
      let may = chain_writable a v (slice_index_or s 0 end_of_chain) s was same has beside in
      let later = takes.grows.version ∙ same in
      let whole : take count s ≡ s = take_all count s few in
      let spare : AreDisjoint (tables_of b) t = writable_beside b v t later (writable same may) in
      let all_changed : AreSubsetOf (s ++ more) changed = subst (λ l. AreSubsetOf l changed) is (among has) in
      let added : length t - length s ≡ length more = let both = ap length is ∙ length-append s more in omega (arith, both) in (
        more,
        is ∙ ap (λ l. l ++ more) (sym whole),
        later,
        subst IsTrue (sym takes.grows.honest) honest,
        spare,
        record {
          leaves = leaves_more (sector v) [] (more ++ changed) (s ++ more) (seen_of a) (seen_of b) (among_both (s ++ more) more changed (none_second s more) all_changed)
              (subst (λ u. ChangesAtMost (sector u) [] (more ++ changed) (seen_of a) (seen_of b)) same (takes_leave more changed a b takes live honest));
          were_free = takes.free live;
          spare = none_behind_all (tables_of b) s more (subst (AreDisjoint (tables_of b)) is spare);
          linked = linked has;
          among = among_same (s ++ more) t is;
        },
        none_dropped (fat_of b) s count few,
        subst (λ u. AreWhole u (bytes_of b) more) later (takes.whole live honest),
        filled honest same has may ∙ ap (λ l. joined v (bytes_of a) l ++ held (length t - length s) (sector_len v)) (sym whole)
            ∙ ap (λ n. joined v (bytes_of a) (take count s) ++ held n (sector_len v)) added,
      )

  pub resized_shorter : (init : SectorInit) (count : ℕ) (a b : Allocator F g) (v : Version) (s t changed : List ℕ) → has_failed_here a ≡ false → has_failed_here b ≡ false → t ≡ take count s → ChangesFat changed a b
      → (IsChainInTable (fat_of a) s → AreSubsetOf s changed × HaveEntry free (fat_of b) (drop count s)) → (IsChainInTable (fat_of a) s → IsChainInTable (fat_of b) t) → (version_of a ≡ v → AreSectorsWritable (MayWrite a) v s → AreSectorsWritable (MayWrite b) v t)
      → (IsTrue (is_honest a) → AreSectorsWritable (MayWrite a) v s → joined v (bytes_of b) t ≡ joined v (bytes_of a) t)
      → Resized (λ k len. copies k (initial init len)) count a v s b t
  unfolding seen_of
  resized_shorter init count a b v s t changed was live is changes freed linked writable kept honest same has beside =
      let may = chain_writable a v (slice_index_or s 0 end_of_chain) s was same has beside in
      let later = changes.version ∙ same in (
        [],
        is ∙ sym (append-nil (take count s)),
        later,
        subst IsTrue (sym changes.honest) honest,
        writable_beside b v t later (writable same may),
        record {
          leaves = leaves_more (sector v) [] changed (s ++ []) (seen_of a) (seen_of b) (among_more s [] changed (freed has).0)
              (subst (λ u. ChangesAtMost (sector u) [] changed (seen_of a) (seen_of b)) same (changes_leave changed a b changes live honest));
          were_free = tt;
          spare = tt;
          linked = linked has;
          among = among_more s [] t (subst (AreSubsetOf s) (sym is) (among_start s count));
        },
        (freed has).1,
        tt,
        kept honest may ∙ ap (joined v (bytes_of a)) is ∙ sym (append-nil (joined v (bytes_of a) (take count s))),
      )

  -- of links, where a chain of them has so many sectors
  pub resized_links : (init : SectorInit) (count : ℕ) (a b : Allocator F g) (before after : Links) → links_version after ≡ links_version before → Resized (λ k len. copies k (initial init len)) count a (links_version before) (ids_of before) b (ids_of after)
      → HasDataChain a before → Resizes init count a b before after
  unfolding seen_of
  resized_links init count a b before after same did chain =
      let has = chain.has in
      let now = did has.honest (sym has.version) has.linked chain.beside in
      record {
        more = now.0;
        sectors = now.1;
        chain = record { has = record { honest = now.3; version = same ∙ sym now.2; linked = now.5.linked }; beside = now.4 };
        becomes = subst (λ u. ReplacesChain (sector u) [] (ids_of before) now.0 (ids_of after) (seen_of a) (seen_of b)) has.version now.5;
        freed = now.6;
        whole = subst (λ u. AreWhole u (bytes_of b) now.0) has.version now.7;
        content = ap (λ u. joined u (bytes_of b) (ids_of after)) now.2 ∙ now.8
            ∙ ap (λ u. joined u (bytes_of a) (take count (ids_of before)) ++ copies (length now.0) (initial init (sector_len u))) has.version;
      }

  -- and where it took in what holds these bytes
  pub extended_links : (bytes : List ℕ) (count : ℕ) (a b : Allocator F g) (before after : Links) → length (ids_of before) ≤ count → links_version after ≡ links_version before
      → Resized (λ k len. padded (k * len) bytes) count a (links_version before) (ids_of before) b (ids_of after) → HasDataChain a before → TakesBytes bytes a b before after
  unfolding seen_of
  extended_links bytes count a b before after few same did chain =
      let has = chain.has in
      let now = did has.honest (sym has.version) has.linked chain.beside in
      let whole : take count (ids_of before) ≡ ids_of before = take_all count (ids_of before) few in
      record {
        more = now.0;
        sectors = now.1 ∙ ap (λ l. l ++ now.0) whole;
        chain = record { has = record { honest = now.3; version = same ∙ sym now.2; linked = now.5.linked }; beside = now.4 };
        becomes = subst (λ u. ReplacesChain (sector u) [] (ids_of before) now.0 (ids_of after) (seen_of a) (seen_of b)) has.version now.5;
        whole = subst (λ u. AreWhole u (bytes_of b) now.0) has.version now.7;
        content = ap (λ u. joined u (bytes_of b) (ids_of after)) now.2 ∙ now.8
            ∙ ap (λ l. joined (links_version before) (bytes_of a) l ++ padded (length now.0 * sector_len (links_version before)) bytes) whole
            ∙ ap (λ u. joined u (bytes_of a) (ids_of before) ++ padded (length now.0 * sector_len u) bytes) has.version;
      }
