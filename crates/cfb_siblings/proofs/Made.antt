-- Entries that were made are objects on their own.
use Rattle.std.proofs.Common.{◌≡◌, ℕ, ◌+◌, ◌-◌, ◌*◌, ◌/◌, ◌≤◌, List, [], ◌∷◌, ◌++◌, length, take, refl, ◌∙◌, ap, arith, IsTrue, replicate}
use Rattle.std.specs.List.{AllByRecursion}
use Rattle.std.specs.Char.{IsScalar}
use Rattle.std.specs.Char.Utf16.{utf16_chars}
use Rattle.cfb_tree.specs.Names.{name_units, is_name}
use Rattle.cfb_tree.specs.Tree.{nothing}
use Rattle.cfb_tree.specs.Directory.{Entry, HasName, kind_stream, kind_storage}
use Rattle.cfb_tree.specs.Entries.{new_entry, name_field}
use Rattle.cfb_tree.specs.Objects.{a_stream, a_storage}
use Rattle.cfb_tree.specs.Changes.{made_at}
use Rattle.cfb_tree.proofs.NamesRead.{units_spell}
use Rattle.cfb_siblings.specs.Changes.{IsAlone}

take_all : (xs ys : List ℕ) → take (length xs) (xs ++ ys) ≡ xs
take_all [] ys = refl
take_all (x ∷ xs) ys = ap (λ zs. x ∷ zs) (take_all xs ys)

half_is : (n : ℕ) → (2 * n + 2) / 2 - 1 ≡ n
half_is n = omega arith

pub new_named : (name : List ℕ) (kind moment : ℕ) → AllByRecursion IsScalar name → length (name_units name) ≤ 31 → HasName (new_entry name kind moment) name
new_named name kind moment scalars short = record {
  even = omega arith;
  fits = omega (arith, short);
  spelled = ap (λ n. utf16_chars (take n (name_field name))) (half_is (length (name_units name)))
      ∙ ap utf16_chars (take_all (name_units name) (replicate (32 - length (name_units name)) 0)) ∙ units_spell name scalars;
}

pub stream_alone : (Reads : Entry → List ℕ → Type 0) (name : List ℕ) (moment : ℕ) (bytes : List ℕ) → AllByRecursion IsScalar name → length (name_units name) ≤ 31
    → Reads (new_entry name kind_stream moment) bytes → IsAlone Reads (new_entry name kind_stream moment) (a_stream name 0 bytes)
stream_alone Reads name moment bytes scalars short reads =
    record { is = (refl, new_named name kind_stream moment scalars short, refl, reads); left = refl; right = refl; color = refl }

pub storage_alone : (Reads : Entry → List ℕ → Type 0) (name : List ℕ) (moment : ℕ) → AllByRecursion IsScalar name → length (name_units name) ≤ 31
    → IsAlone Reads (new_entry name kind_storage moment) (a_storage name (made_at moment) nothing)
storage_alone Reads name moment scalars short =
    record { is = (refl, new_named name kind_storage moment scalars short, refl, refl, refl); left = refl; right = refl; color = refl }

pub short_name : (name : List ℕ) → IsTrue (is_name name) → length (name_units name) ≤ 31
short_name name valid = grind arith
