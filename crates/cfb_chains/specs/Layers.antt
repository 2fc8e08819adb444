-- What a layer with sectors says of itself, as a clause passes it on: the ghost members of a trait and of those below it.
use Rattle.std.specs.Prelude.{ℕ, Bool, List}
use Rattle.cfb_medium.specs.declared.error.Error.{Error}
use Rattle.cfb_medium.specs.declared.version.Version.{Version}

-- of `ChangesSectors`
abbrev pub Changing : Type 0 → Type 1
Changing H = record {
  bytes : H → List ℕ;
  honest : H → Bool;
  failed : H → Bool;
  rests : H → H → Type 0;
  has_cause : H → H → Error → Type 0;
  may_write : H → ℕ → ℕ → Type 0;
  writes : ℕ → List ℕ → H → H → Type 0;
  fails : H → H → Type 0;
}

-- of `FreesChains`
abbrev pub Freeing : Type 0 → Type 1
Freeing H = record {
  bytes : H → List ℕ;
  honest : H → Bool;
  failed : H → Bool;
  rests : H → H → Type 0;
  has_cause : H → H → Error → Type 0;
  may_write : H → ℕ → ℕ → Type 0;
  writes : ℕ → List ℕ → H → H → Type 0;
  fails : H → H → Type 0;
  fat : H → List ℕ;
  orderly : H → Bool;
  changes_fat : List ℕ → H → H → Type 0;
}

-- of `GrowsChains`
abbrev pub Growing : Type 0 → Type 1
Growing H = record {
  bytes : H → List ℕ;
  honest : H → Bool;
  failed : H → Bool;
  rests : H → H → Type 0;
  has_cause : H → H → Error → Type 0;
  may_write : H → ℕ → ℕ → Type 0;
  writes : ℕ → List ℕ → H → H → Type 0;
  fails : H → H → Type 0;
  fat : H → List ℕ;
  orderly : H → Bool;
  changes_fat : List ℕ → H → H → Type 0;
  version : H → Version;
  tables : H → List ℕ;
  is_full : H → Type 0;
  lacks : H → ℕ → Type 0;
  grows : List ℕ → List ℕ → H → H → Type 0;
}
