-- A package is sound exactly where its parts are judged so.
use Rattle.std.proofs.Common.{◌≡◌, ◌∙◌, ℕ, Bool, true, false, cond, List, [], ◌∷◌, map, refl, sym, ap, subst, arith, Some, None, get_or}
use Rattle.std.specs.Prelude.{◌&&◌, ◌||◌, not, Option, Ok, filter, bytes_eq, option_map, All, Contains, IfSome, IsTrue, ◌↔◌}
use Rattle.std.specs.List.{list_all}
use Rattle.std.specs.List.Sorted.{IsStrictlySortedBy}
use Rattle.std.proofs.lemmas.Bool.{and_parts}
use Rattle.std.proofs.lemmas.List.Elements.{All-cons, All-head, All-tail}
use Rattle.cfb_spec.specs.TreeRules.{Object, is_same_name}
use Rattle.cfb_spec.specs.TreeRules.{name_of as object_name}
use Rattle.cfb_tree.specs.Names.{CaseTable}
use Rattle.cfb_tree.specs.Tree.{Tree}
use Rattle.msi_spec.proofs.PackedFrom.{packed_from}
use Rattle.msi_spec.proofs.PacksOnce.{ok_same, some_same}
use Rattle.msi_spec.proofs.SoundAnyway.{sound_anyway, sound_so}
use Rattle.msi_spec.specs.Known.{HaveColumns, HaveRows, is_named, package_with}
use Rattle.msi_spec.specs.Opening.{keeps_encoded_names}
use Rattle.msi_spec.specs.Package.{PackageContent, TreePacksPackage, at_name, data_name, is_own, is_stream, objects, pool_name, stream_at, stream_name, summary_name, table_name_cmp, table_stream}
use Rattle.msi_spec.specs.Sound.{IsSoundPackage, is_free_table_name}
use Rattle.msi_spec.specs.SoundParts.{HasSoundParts}
use Rattle.msi_spec.specs.declared.kind.PackageType.{PackageType}
use Rattle.msi_parts.proofs.Memory.{memory_is}
use Rattle.msi_spec.specs.Uses.{RefcountsAreExact}
use Rattle.msi_parts.proofs.Marked.{summary_differs}
use Rattle.msi_parts.specs.Judged.{IsJudged, IsUnlisted, IsUsual, are_free_names, heading_named, is_in_place, is_under, table_streams}
use Rattle.msi_parts.specs.Parts.{AreParts, MemoryIsPackage, heading}
use Rattle.msi_pool.specs.PoolKept.{AreFreeEmpty}
use Rattle.msi_pool.specs.Pool.{Pool}
use Rattle.msi_pool.specs.PoolReading.{Begun, begun, texts_give_back as pool_texts_give_back}
use Rattle.msi_props.specs.Held.{SetState}
use Rattle.msi_props.specs.Props.{Props, texts_give_back}
use Rattle.msi_tables.specs.Rows.{kinds_of}
use Rattle.msi_tables.specs.Schema.{columns_in, validation_columns, validation_name}
use Rattle.msi_tables.specs.Table.{Heading, Table, row_data, table_named}
use Rattle.msi_texts.specs.StreamName.{is_marked}

-- ---- lists

-- a test of all, and a fact of each
pub each_of : {X : Type 0} (p : X → Bool) (xs : List X) → list_all p xs ≡ true → All (λ x. IsTrue (p x)) xs
each_of p [] h = λ k d l. absurd (omega (arith, l))
each_of p (x ∷ xs) h = let both = and_parts (p x) (list_all p xs) h in All-cons (λ x. IsTrue (p x)) x xs both.0 (each_of p xs both.1)

pub all_of : {X : Type 0} (p : X → Bool) (xs : List X) → All (λ x. IsTrue (p x)) xs → list_all p xs ≡ true
all_of p [] h = refl
all_of p (x ∷ xs) h = ap (λ b. b && list_all p xs) (All-head (λ x. IsTrue (p x)) x xs h) ∙ all_of p xs (All-tail (λ x. IsTrue (p x)) x xs h)

-- a fact of what is made of each
pub of_map : {X Y : Type 0} (f : X → Y) (P : Y → Type 0) (xs : List X) → All P (map f xs) → All (λ x. P (f x)) xs
of_map f P [] h = λ k d l. absurd (omega (arith, l))
of_map f P (x ∷ xs) h = All-cons (λ x. P (f x)) x xs (All-head P (f x) (map f xs) h) (of_map f P xs (All-tail P (f x) (map f xs) h))

pub to_map : {X Y : Type 0} (f : X → Y) (P : Y → Type 0) (xs : List X) → All (λ x. P (f x)) xs → All P (map f xs)
to_map f P [] h = λ k d l. absurd (omega (arith, l))
to_map f P (x ∷ xs) h = All-cons P (f x) (map f xs) (All-head (λ x. P (f x)) x xs h) (to_map f P xs (All-tail (λ x. P (f x)) x xs h))

-- a fact of each that a filter lets through
filtered : {X : Type 0} (p : X → Bool) (P Q : X → Type 0) → ((x : X) → p x ≡ true → P x → Q x) → (xs : List X) → All P xs → All Q (filter p xs)
filtered p P Q h [] a = λ k d l. absurd (omega (arith, l))
filtered p P Q h (x ∷ xs) a = by (p x) refl (filtered p P Q h xs (All-tail P x xs a))
  where
    by : (b : Bool) → p x ≡ b → All Q (filter p xs) → All Q (cond b (x ∷ filter p xs) (filter p xs))
    by true is later = All-cons Q x (filter p xs) (h x is (All-head P x xs a)) later
    by false is later = later

-- and of each, where both kinds have it
unfiltered : {X : Type 0} (p : X → Bool) (P Q : X → Type 0) → ((x : X) → p x ≡ true → P x → Q x) → ((x : X) → p x ≡ false → Q x) → (xs : List X) → All P (filter p xs) → All Q xs
unfiltered p P Q h k [] a = λ k d l. absurd (omega (arith, l))
unfiltered p P Q h k (x ∷ xs) a = by (p x) refl a (unfiltered p P Q h k xs)
  where
    by : (b : Bool) → p x ≡ b → All P (cond b (x ∷ filter p xs) (filter p xs)) → (All P (filter p xs) → All Q xs) → All Q (x ∷ xs)
    by true is a later = All-cons Q x xs (h x is (All-head P x (filter p xs) a)) (later (All-tail P x (filter p xs) a))
    by false is a later = All-cons Q x xs (k x is) (later a)

-- ---- headings and tables

-- the names of tables are those of their headings
names_of : (long : Bool) (ts : List Table) → map (λ h. stream_name h.name) (map (heading long) ts) ≡ map (λ t. stream_name t.name) ts
names_of long [] = refl
names_of long (t ∷ ts) = ap (λ ns. stream_name t.name ∷ ns) (names_of long ts)

pub bare_names : (long : Bool) (ts : List Table) → map (λ h. h.name) (map (heading long) ts) ≡ map (λ t. t.name) ts
bare_names long [] = refl
bare_names long (t ∷ ts) = ap (λ ns. t.name ∷ ns) (bare_names long ts)

-- a table is found where its heading is
pub named_heading : (long : Bool) (ts : List Table) (name : List ℕ) → heading_named (map (heading long) ts) name ≡ option_map (heading long) (table_named ts name)
named_heading long [] name = refl
named_heading long (t ∷ ts) name = by (bytes_eq t.name name) (named_heading long ts name)
  where
    by : (b : Bool) → heading_named (map (heading long) ts) name ≡ option_map (heading long) (table_named ts name)
        → cond b (Some (heading long t)) (heading_named (map (heading long) ts) name) ≡ option_map (heading long) (cond b (Some t) (table_named ts name))
    by true later = refl
    by false later = later

kinds_usual : (long : Bool) (o : Option Table) → IfSome (option_map (heading long) o) IsUsual → IfSome o (λ t. kinds_of t.columns ≡ kinds_of validation_columns)
kinds_usual long None h = tt
kinds_usual long (Some t) h = h.kinds

keys_usual : (long : Bool) (o : Option Table) → IfSome (option_map (heading long) o) IsUsual → IfSome o (λ t. map (λ c. c.key) t.columns ≡ map (λ c. c.key) validation_columns)
keys_usual long None h = tt
keys_usual long (Some t) h = h.keys

both_usual : (long : Bool) (o : Option Table) → IfSome o (λ t. kinds_of t.columns ≡ kinds_of validation_columns)
    → IfSome o (λ t. map (λ c. c.key) t.columns ≡ map (λ c. c.key) validation_columns) → IfSome (option_map (heading long) o) IsUsual
both_usual long None h k = tt
both_usual long (Some t) h k = record { kinds = h; keys = k }

-- ---- objects of the root

or_right : (a b : Bool) → b ≡ true → a || b ≡ true
or_right true b e = refl
or_right false b e = e

pub or_false : (a b : Bool) → a || b ≡ false → (a ≡ false) × (b ≡ false)
or_false true b e = absurd (cc)
or_false false b e = (refl, e)

not_true : (b : Bool) → not b ≡ true → b ≡ false
not_true true e = absurd (cc)
not_true false e = refl

module _ (letters : CaseTable) where
  -- a name that no object has is found at none
  unfound : (name : List ℕ) (os : List Object) → All (λ o. is_same_name letters name (object_name o) ≡ false) os → at_name letters os name ≡ None
  unfound name [] h = refl
  unfound name (o ∷ os) h =
      ap (λ b. cond b (Some o) (at_name letters os name)) (All-head (λ o. is_same_name letters name (object_name o) ≡ false) o os h)
      ∙ unfound name os (All-tail (λ o. is_same_name letters name (object_name o) ≡ false) o os h)

  none_of_names : (names : List (List ℕ)) (os : List Object) → All (λ o. is_under letters names o ≡ false) os → All (λ n. at_name letters os n ≡ None) names
  none_of_names [] os h = λ k d l. absurd (omega (arith, l))
  none_of_names (n ∷ ns) os h =
      All-cons (λ n. at_name letters os n ≡ None) n ns (unfound n os (λ k d l. (or_false _ _ (h k d l)).0)) (none_of_names ns os (λ k d l. (or_false _ _ (h k d l)).1))

  -- and one that is found at none no object has
  found_so : (name : List ℕ) (os : List Object) → at_name letters os name ≡ None → All (λ o. is_same_name letters name (object_name o) ≡ false) os
  found_so name [] h = λ k d l. absurd (omega (arith, l))
  found_so name (o ∷ os) h = by (is_same_name letters name (object_name o)) refl h (found_so name os)
    where
      by : (b : Bool) → is_same_name letters name (object_name o) ≡ b → cond b (Some o) (at_name letters os name) ≡ None
          → (at_name letters os name ≡ None → All (λ o. is_same_name letters name (object_name o) ≡ false) os) → All (λ o. is_same_name letters name (object_name o) ≡ false) (o ∷ os)
      by true e h later = absurd (cc)
      by false e h later = All-cons (λ o. is_same_name letters name (object_name o) ≡ false) o os e (later h)

  under_none : (names : List (List ℕ)) (os : List Object) → All (λ n. at_name letters os n ≡ None) names → All (λ o. is_under letters names o ≡ false) os
  under_none [] os h = λ k d l. refl
  under_none (n ∷ ns) os h = λ k d l.
      let here = found_so n os (All-head (λ n. at_name letters os n ≡ None) n ns h) k d l in
      let there = under_none ns os (All-tail (λ n. at_name letters os n ≡ None) n ns h) k d l in
      ap (λ b. b || is_under letters ns (get_or os k d)) here ∙ there

-- ---- the judgement

module _ (letters : CaseTable) (tree : Tree) (kind : PackageType) (summary : SetState) (pool : Pool) (gives_back : Bool) (headings : List Heading)
    (a : AreParts letters tree kind summary pool gives_back headings) (may : keeps_encoded_names letters ≡ true) where
  -- what the streams of pool and summary give back was judged
  pool_gives : gives_back ≡ true → (pool_bytes data_bytes : List ℕ) (builder : Begun) → table_stream letters (objects tree.content) pool_name ≡ Some pool_bytes
      → table_stream letters (objects tree.content) data_name ≡ Some data_bytes → begun pool_bytes ≡ Ok builder → pool_texts_give_back builder data_bytes ≡ Ok true
  pool_gives is pool_bytes data_bytes builder at also begins =
      let first : pool_bytes ≡ a.parts.pool_bytes = some_same pool_bytes a.parts.pool_bytes (sym at ∙ a.parts.pool_at) in
      let second : data_bytes ≡ a.parts.data_bytes = some_same data_bytes a.parts.data_bytes (sym also ∙ a.parts.data_at) in
      let same : builder ≡ a.parts.builder = ok_same builder a.parts.builder (sym begins ∙ ap begun first ∙ a.parts.begins) in
      ap (λ b. pool_texts_give_back b data_bytes) same ∙ ap (pool_texts_give_back a.parts.builder) second ∙ a.back ∙ ap (λ b. Ok b) is

  summary_gives : summary.whole ≡ true → (bytes : List ℕ) → stream_at letters (objects tree.content) summary_name ≡ Some bytes → IsTrue (texts_give_back bytes)
  summary_gives is bytes at = ap texts_give_back (some_same bytes a.parts.summary_bytes (sym at ∙ a.parts.summary_at)) ∙ sym a.whole ∙ is

  module _ (j : IsJudged letters tree summary pool gives_back headings) where
    abbrev ts : List Table
    ts = j.rows.tables

    abbrev P : PackageContent
    P = package_with letters tree kind summary.props pool ts

    -- headings of these tables
    abbrev hs : List Heading
    hs = map (heading pool.long) ts

    known : HaveColumns letters tree pool a.parts.tables a.parts.columns a.parts.validation ts
    known = record {
      rising = subst (λ ns. IsStrictlySortedBy table_name_cmp ns) (bare_names pool.long ts)
          (subst (λ (hs : List Heading). IsStrictlySortedBy table_name_cmp (map (λ h. h.name) hs)) (sym j.rows.same) a.described.rising);
      names = λ name. subst (λ ns. IsTrue (is_named (map (row_data pool) a.parts.tables) name) ↔ Contains ns name) (bare_names pool.long ts)
          (subst (λ (hs : List Heading). IsTrue (is_named (map (row_data pool) a.parts.tables) name) ↔ Contains (map (λ h. h.name) hs) name) (sym j.rows.same) (a.described.names name));
      known = of_map (heading pool.long) (λ h. columns_in (map (row_data pool) a.parts.columns) (map (row_data pool) a.parts.validation) h.name ≡ Some h.columns) ts
          (subst (λ (hs : List Heading). All (λ h. columns_in (map (row_data pool) a.parts.columns) (map (row_data pool) a.parts.validation) h.name ≡ Some h.columns) hs) (sym j.rows.same) a.described.known);
    }

    packs : TreePacksPackage letters tree P
    packs = packed_from letters tree kind summary.props pool a.parts ts known j.rows.rows

    -- the test of each object, over the names of tables
    placed : All (λ o. IsTrue (is_in_place letters hs o)) (objects tree.content)
    placed = subst (λ (hs : List Heading). All (λ o. IsTrue (is_in_place letters hs o)) (objects tree.content)) (sym j.rows.same) j.in_place

    no_stray : (o : Object) → (is_stream o && not (is_own letters P o)) ≡ true → is_in_place letters hs o ≡ true → not (is_marked (object_name o)) ≡ true
    no_stray o keep place =
        let both = and_parts (is_stream o) (not (is_own letters P o)) keep in
        let other = or_false (is_same_name letters summary_name (object_name o)) (is_under letters (stream_name pool_name ∷ stream_name data_name ∷ map (λ t. stream_name t.name) ts) o) (not_true (is_own letters P o) both.1) in
        let here : (not (is_marked (object_name o)) || is_under letters (table_streams hs) o) ≡ true =
        ap (λ b. cond b (not (is_marked (object_name o)) || is_under letters (table_streams hs) o) (not (is_under letters (map (λ h. stream_name h.name) hs) o))) (sym both.0) ∙ place in
        by (not (is_marked (object_name o))) (is_under letters (table_streams hs) o) here
        (ap (λ ns. is_under letters (stream_name pool_name ∷ stream_name data_name ∷ ns) o) (names_of pool.long ts) ∙ other.1)
      where
        by : (x y : Bool) → x || y ≡ true → y ≡ false → x ≡ true
        by true y e f = refl
        by false y e f = absurd (cc)

    no_storage : (o : Object) → not (is_stream o) ≡ true → is_in_place letters hs o ≡ true → is_under letters (map (λ t. stream_name t.name) ts) o ≡ false
    no_storage o storage place =
        let here : not (is_under letters (map (λ h. stream_name h.name) hs) o) ≡ true =
        ap (λ b. cond b (not (is_marked (object_name o)) || is_under letters (table_streams hs) o) (not (is_under letters (map (λ h. stream_name h.name) hs) o))) (sym (not_true (is_stream o) storage)) ∙ place in
        ap (λ ns. is_under letters ns o) (sym (names_of pool.long ts)) ∙ not_true (is_under letters (map (λ h. stream_name h.name) hs) o) here

    usual : IfSome (option_map (heading pool.long) (table_named ts validation_name)) IsUsual
    usual = subst (λ (o : Option Heading). IfSome o IsUsual) (ap (λ hs. heading_named hs validation_name) (sym j.rows.same) ∙ named_heading pool.long ts validation_name) j.usual

    is_sound : HasSoundParts letters tree P
    is_sound = record {
      counted = j.rows.counted;
      free = j.free;
      named = record {
        one_section = j.one_section;
        no_strays = filtered (λ o. is_stream o && not (is_own letters P o)) (λ o. IsTrue (is_in_place letters hs o)) (λ o. IsTrue (not (is_marked (object_name o)))) no_stray (objects tree.content) placed;
        table_names = of_map (heading pool.long) (λ h. IsTrue (is_free_table_name h.name)) ts
            (subst (λ (hs : List Heading). All (λ h. IsTrue (is_free_table_name h.name)) hs) (sym j.rows.same) (each_of (λ h. is_free_table_name h.name) headings j.names));
        no_storage = of_map (λ t. stream_name t.name) (λ n. at_name letters (filter (λ o. not (is_stream o)) (objects tree.content)) n ≡ None) ts
            (none_of_names letters (map (λ t. stream_name t.name) ts) (filter (λ o. not (is_stream o)) (objects tree.content))
            (filtered (λ o. not (is_stream o)) (λ o. IsTrue (is_in_place letters hs o)) (λ o. is_under letters (map (λ t. stream_name t.name) ts) o ≡ false)
            no_storage (objects tree.content) placed));
        not_listed = j.rows.unlisted;
        validation_kinds = kinds_usual pool.long (table_named ts validation_name) usual;
        validation_keys = keys_usual pool.long (table_named ts validation_name) usual;
      };
      gives_back = record { pool = pool_gives j.pool_whole; summary = summary_gives j.summary_whole };
    }

    pub judged_sound : (Q : PackageContent) × (packed : TreePacksPackage letters tree Q) × IsSoundPackage letters tree Q packed
    judged_sound = (P, packs, sound_so letters tree P packs is_sound)

  module _ (P : PackageContent) (packs : TreePacksPackage letters tree P) (sound : IsSoundPackage letters tree P packs) where
    parts_sound : HasSoundParts letters tree P
    parts_sound = sound_anyway letters tree P packs sound

    memory : MemoryIsPackage kind summary.props pool headings P
    memory = memory_is letters tree kind summary pool gives_back headings a P packs

    -- the test of an object, by its kind
    stream_place : (o : Object) → is_stream o ≡ true → (not (is_marked (object_name o)) || is_under letters (table_streams headings) o) ≡ true → is_in_place letters headings o ≡ true
    stream_place o stream h = ap (λ b. cond b (not (is_marked (object_name o)) || is_under letters (table_streams headings) o) (not (is_under letters (map (λ h. stream_name h.name) headings) o))) stream ∙ h

    storage_place : (o : Object) → is_stream o ≡ false → is_under letters (map (λ h. stream_name h.name) headings) o ≡ false → is_in_place letters headings o ≡ true
    storage_place o storage h =
        ap (λ b. cond b (not (is_marked (object_name o)) || is_under letters (table_streams headings) o) (not (is_under letters (map (λ h. stream_name h.name) headings) o))) storage ∙ ap not h

    names : map (λ h. stream_name h.name) headings ≡ map (λ t. stream_name t.name) P.tables
    names = ap (map (λ h. stream_name h.name)) memory.tables ∙ names_of pool.long P.tables

    -- an own stream is in place
    own_place : (o : Object) → is_stream o ≡ true → is_own letters P o ≡ true → is_in_place letters headings o ≡ true
    own_place o stream own = by (is_marked (object_name o)) refl
      where
        under : is_marked (object_name o) ≡ true → is_under letters (table_streams headings) o ≡ true
        under marked =
            ap (λ ns. is_under letters (stream_name pool_name ∷ stream_name data_name ∷ ns) o) names
            ∙ ap (λ b. b || is_under letters (stream_name pool_name ∷ stream_name data_name ∷ map (λ t. stream_name t.name) P.tables) o) (sym (summary_differs letters may (object_name o) marked)) ∙ own

        by : (b : Bool) → is_marked (object_name o) ≡ b → is_in_place letters headings o ≡ true
        by false e = stream_place o stream (ap (λ b. not b || is_under letters (table_streams headings) o) e)
        by true e = stream_place o stream (or_right (not (is_marked (object_name o))) (is_under letters (table_streams headings) o) (under e))

    -- no storage stands at the name of a table
    storages_under : All (λ o. is_under letters (map (λ t. stream_name t.name) P.tables) o ≡ false) (filter (λ o. not (is_stream o)) (objects tree.content))
    storages_under =
        subst (λ (os : List Object). All (λ o. is_under letters (map (λ t. stream_name t.name) P.tables) o ≡ false) os) packs.storages
        (under_none letters (map (λ t. stream_name t.name) P.tables) P.storages
        (to_map (λ t. stream_name t.name) (λ n. at_name letters P.storages n ≡ None) P.tables parts_sound.named.no_storage))

    -- each object that is no stray is in place, whatever its kind
    placed_so : All (λ o. IsTrue (is_in_place letters headings o)) (objects tree.content)
    placed_so = λ k d below. by (get_or (objects tree.content) k d) (strays k d below) (storages k d below)
      where
        strays : All (λ o. (is_stream o && not (is_own letters P o)) ≡ true → not (is_marked (object_name o)) ≡ true) (objects tree.content)
        strays = unfiltered (λ o. is_stream o && not (is_own letters P o)) (λ o. IsTrue (not (is_marked (object_name o))))
            (λ o. (is_stream o && not (is_own letters P o)) ≡ true → not (is_marked (object_name o)) ≡ true)
            (λ o keep h _. h) (λ o out keep. let no : true ≡ false = sym keep ∙ out in absurd (cc)) (objects tree.content)
            (subst (λ (os : List Object). All (λ o. IsTrue (not (is_marked (object_name o)))) os) packs.streams parts_sound.named.no_strays)

        storages : All (λ o. not (is_stream o) ≡ true → is_under letters (map (λ t. stream_name t.name) P.tables) o ≡ false) (objects tree.content)
        storages = unfiltered (λ o. not (is_stream o)) (λ o. is_under letters (map (λ t. stream_name t.name) P.tables) o ≡ false)
            (λ o. not (is_stream o) ≡ true → is_under letters (map (λ t. stream_name t.name) P.tables) o ≡ false)
            (λ o keep h _. h) (λ o out keep. let no : true ≡ false = sym keep ∙ out in absurd (cc)) (objects tree.content) storages_under

        by : (o : Object) → ((is_stream o && not (is_own letters P o)) ≡ true → not (is_marked (object_name o)) ≡ true)
            → (not (is_stream o) ≡ true → is_under letters (map (λ t. stream_name t.name) P.tables) o ≡ false) → is_in_place letters headings o ≡ true
        by o stray storage = of_kind (is_stream o) (is_own letters P o) refl refl
          where
            of_kind : (s w : Bool) → is_stream o ≡ s → is_own letters P o ≡ w → is_in_place letters headings o ≡ true
            of_kind false w es ew = storage_place o es (ap (λ ns. is_under letters ns o) names ∙ storage (ap not es))
            of_kind true true es ew = own_place o es ew
            of_kind true false es ew =
                stream_place o es (ap (λ b. b || is_under letters (table_streams headings) o) (stray (ap (λ b. b && not (is_own letters P o)) es ∙ ap not ew)))

    pub sound_judged : IsJudged letters tree summary pool gives_back headings
    sound_judged = record {
      pool_whole = ok_same gives_back true
          (sym a.back ∙ parts_sound.gives_back.pool a.parts.pool_bytes a.parts.data_bytes a.parts.builder a.parts.pool_at a.parts.data_at a.parts.begins);
      summary_whole = a.whole ∙ parts_sound.gives_back.summary a.parts.summary_bytes a.parts.summary_at;
      one_section = ap (λ (s : Props). s.sections) memory.summary ∙ parts_sound.named.one_section;
      free = subst (λ (q : Pool). AreFreeEmpty q.places) (sym memory.pool) parts_sound.free;
      names = ap are_free_names memory.tables
          ∙ all_of (λ h. is_free_table_name h.name) (map (heading pool.long) P.tables) (to_map (heading pool.long) (λ h. IsTrue (is_free_table_name h.name)) P.tables parts_sound.named.table_names);
      usual = subst (λ (o : Option Heading). IfSome o IsUsual) (sym (ap (λ hs. heading_named hs validation_name) memory.tables ∙ named_heading pool.long P.tables validation_name))
          (both_usual pool.long (table_named P.tables validation_name) parts_sound.named.validation_kinds parts_sound.named.validation_keys);
      in_place = placed_so;
      rows = record {
        tables = P.tables;
        same = sym memory.tables;
        rows = subst (λ (q : Pool). HaveRows letters tree q P.tables) (sym memory.pool) packs.rows;
        counted = subst (λ (q : Pool). RefcountsAreExact q P.tables) (sym memory.pool) parts_sound.counted;
        unlisted = subst (λ (q : Pool). IsUnlisted q P.tables) (sym memory.pool) parts_sound.named.not_listed;
      };
    }
