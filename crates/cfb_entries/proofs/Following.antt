-- A path's text, followed part by part down a tree.
use Rattle.std.proofs.Common.{◌≡◌, ℕ, ◌==◌, true, false, List, [], ◌∷◌, ◌++◌, refl, sym, ◌∙◌, ap, map, append_assoc, arith, ◌⊎◌, inl, inr, chars}
use Rattle.std.specs.Prelude.{Option, Some, None, slice_get}
use Rattle.std.specs.Option.{option_map}
use Rattle.std.proofs.lemmas.List.{map-append}
use Rattle.cfb_tree.specs.Directory.{Entry, kind_stream}
use Rattle.cfb_tree.specs.Names.{CaseTable}
use Rattle.cfb_tree.specs.Objects.{Object, child, inside_of, object_at, object_from, root_object}
use Rattle.cfb_tree.specs.Paths.{Path, back, is_back, is_dropped, led_from, parts_of, path_names}
use Rattle.cfb_tree.specs.Tree.{Tree}
use Rattle.cfb_tree.proofs.OneContent.{Some_same}
use Rattle.cfb_tree.proofs.PathSteps.{part_dropped, part_back, part_further}
use Rattle.cfb_tree.specs.Entries.{HasSize}
use Rattle.cfb_siblings.specs.Places.{IsStorageAt, LeadsTo, path_to}
use Rattle.cfb_siblings.proofs.Following.{followed_stream}
use Rattle.cfb_entries.specs.Parts.{goes_back}
use Rattle.cfb_entries.specs.Rules.{EntriesHoldSizes, is_stream_object, kind_at, names_in}
use Rattle.cfb_entries.proofs.Turning.{turn_dropped, turn_named, turn_found, taken_back, stays_there, one_more}

-- whether a later part takes the name before these back, as it is told
pub told_behind : {A : Type 0} (view : A → List (List ℕ)) (o : Option A) (x : A) (parts : List (List ℕ)) → option_map view o ≡ goes_back parts 0 → o ≡ Some x → goes_back parts 0 ≡ Some (view x)
told_behind view o x parts told is = sym told ∙ ap (option_map view) is

pub told_stays : {A : Type 0} (view : A → List (List ℕ)) (o : Option A) (parts : List (List ℕ)) → option_map view o ≡ goes_back parts 0 → o ≡ None → goes_back parts 0 ≡ None
told_stays view o parts told is = sym told ∙ ap (option_map view) is

-- what is left of a path's text leads on from these names, of which it takes none back
pub record Came (text : List ℕ) (names : Path) (parts : List (List ℕ)) : Type 0 where
  pub led : path_names text ≡ led_from (Some names) parts
  pub stays : (names ≡ []) ⊎ (goes_back parts 0 ≡ None)

pub came_first : (text : List ℕ) (parts : List (List ℕ)) → parts ≡ parts_of text → Came text [] parts
came_first text parts is = record { led = ap (led_from (Some [])) (sym is); stays = inl refl }

pub came_all : (text : List ℕ) (names : Path) (parts : List (List ℕ)) → Came text names parts → parts ≡ [] → names_in text ≡ Some (map chars names)
came_all text names parts it none = ap (option_map (map chars)) (it.led ∙ ap (led_from (Some names)) none)

module _ (text : List ℕ) (names : Path) (whole : List (List ℕ)) (part : List ℕ) (rest : List (List ℕ)) (it : Came text names whole) (cut : whole ≡ part ∷ rest) where
  pub came_dropped : is_dropped part ≡ true → Came text names rest
  came_dropped drops = record {
    led = it.led ∙ part_dropped names part whole rest cut drops;
    stays = elim it.stays [
      | inl none ↦ inl none
      | inr stays ↦ inr (sym (turn_dropped part rest 0 drops) ∙ ap (λ ps. goes_back ps 0) (sym cut) ∙ stays)
    ];
  }

  module _ (stays : is_dropped part ≡ false) where
    -- two points that are met lead above the root
    pub came_above : is_back part ≡ true → names_in text ≡ None
    came_above backs = elim it.stays [
      | inl none ↦ ap (option_map (map chars)) (it.led ∙ part_back names part whole rest cut stays backs ∙ ap (λ ns. led_from (back ns) rest) none)
      | inr never ↦ absurd (let both : Some rest ≡ None = sym (turn_found part rest 0 stays backs refl) ∙ ap (λ ps. goes_back ps 0) (sym cut) ∙ never in cc)
    ]

    module _ (leads : is_back part ≡ false) where
      pub came_behind : (behind : List (List ℕ)) → goes_back rest 0 ≡ Some behind → Came text names behind
      came_behind behind is = record {
        led = it.led ∙ part_further names part whole rest cut stays leads ∙ taken_back rest names part [] behind is;
        stays = elim it.stays [
          | inl none ↦ inl none
          | inr never ↦ inr (sym (one_more rest 0 behind is) ∙ sym (turn_named part rest 0 stays leads) ∙ ap (λ ps. goes_back ps 0) (sym cut) ∙ never)
        ];
      }

      pub came_further : goes_back rest 0 ≡ None → Came text (names ++ part ∷ []) rest
      came_further never = record { led = it.led ∙ part_further names part whole rest cut stays leads; stays = inr never }

      -- the name is one of the path's
      pub name_stays : goes_back rest 0 ≡ None → (more : Path) × (names_in text ≡ Some (path_to (map chars names) (chars part) ++ map chars more))
      name_stays never =
          let (more, is) = stays_there rest names part [] never in (
            more,
            ap (option_map (map chars)) (it.led ∙ part_further names part whole rest cut stays leads ∙ is) ∙ ap Some (apart more),
          )
        where
          apart : (more : Path) → map chars (names ++ part ∷ more) ≡ (map chars names ++ chars part ∷ []) ++ map chars more
          apart more = map-append chars names (part ∷ more) ∙ sym (append_assoc (map chars names) (chars part ∷ []) (map chars more))

pub one_longer : (names : Path) (part : List ℕ) → path_to (map chars names) (chars part) ≡ map chars (names ++ part ∷ [])
one_longer names part = sym (map-append chars names (part ∷ []))

module _ (letters : CaseTable) where
  none_inside : (path : Path) → object_from letters None path ≡ None
  none_inside [] = refl
  none_inside (name ∷ names) = refl

  lost_behind : (o : Option Object) (path more : Path) → object_from letters o path ≡ None → object_from letters o (path ++ more) ≡ None
  lost_behind None path more lost = none_inside (path ++ more)
  lost_behind (Some o) [] more lost = absurd (cc)
  lost_behind (Some o) (name ∷ names) more lost = lost_behind (child letters (inside_of o) name) names more lost

  -- where no object is, none is below
  pub nothing_below : (tree : Tree) (text : List ℕ) (path more : Path) → names_in text ≡ Some (path ++ more) → object_at letters tree path ≡ None → kind_at letters tree (names_in text) ≡ None
  nothing_below tree text path more named lost =
      ap (kind_at letters tree) named ∙ ap (option_map is_stream_object) (lost_behind (Some (root_object tree)) path more lost)

  pub nothing_above : (tree : Tree) (text : List ℕ) → names_in text ≡ None → kind_at letters tree (names_in text) ≡ None
  nothing_above tree text none = ap (kind_at letters tree) none

  module _ (directory : List Entry) (tree : Tree) (h : EntriesHoldSizes letters directory tree) (path : Path) (id : ℕ) (leads : LeadsTo letters directory 0 path id)
      (e : Entry) (at : slice_get directory id ≡ Some e) where
    pub stream_has_none : (name : List ℕ) → e.kind ≡ kind_stream → object_at letters tree (path_to path name) ≡ None
    stream_has_none name kind =
        followed_stream letters HasSize directory tree h (path_to path name) (name ∷ []) name [] id refl record { front = path; path_is = refl; leads = leads }
        (λ owner. owner.holds (ap (λ y. y.kind) (Some_same (sym owner.found ∙ at)) ∙ kind))

    pub storage_at : (e.kind ≡ kind_stream → ⊥) → IsStorageAt letters directory path id
    storage_at holds = record { leads = leads; owner = record { entry = e; found = at; holds = holds } }

pub not_kind : (kind : ℕ) → (kind == kind_stream) ≡ false → kind ≡ kind_stream → ⊥
not_kind kind isnt is = grind arith
