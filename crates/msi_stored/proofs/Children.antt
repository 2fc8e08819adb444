-- Texts that are paths of one name, and what the rules say there of the objects under the root.
use Rattle.std.proofs.Common.{◌≡◌, ◌∙◌, ℕ, Bool, true, false, List, [], ◌∷◌, refl, sym, ap, arith, Some, None}
use Rattle.std.specs.Prelude.{◌==◌, ◌&&◌, ◌||◌, not, Option, chars, encode_utf8_all, IsUtf8}
use Rattle.std.specs.List.{list_all}
use Rattle.cfb.specs.Views.{said_at}
use Rattle.cfb_entries.specs.Rules.{answer_at, names_in}
use Rattle.cfb_spec.specs.TreeRules.{Object, a_storage, a_stream, has_bytes, is_stream, is_stream_found, object_at, on_stream, open_read_stream, refused, tree_step, yes}
use Rattle.cfb_medium.specs.declared.error.Error.{Error}
use Rattle.cfb_tree.specs.Names.{CaseTable}
use Rattle.cfb_tree.specs.Tree.{Tree}
use Rattle.msi_spec.proofs.EncodedPaths.{path_filled}
use Rattle.msi_spec.proofs.UnderRoot.{none_at, read_at}
use Rattle.msi_spec.specs.Package.{has_slash, objects, stream_at}
use Rattle.msi_texts.specs.StreamName.{spelled_name}

-- where the rules say that a stream is there, reading it isn't refused
not_refused : (letters : CaseTable) (tree : Tree) (name : List ℕ) (e : Error) → yes true ≡ (tree_step letters tree (is_stream (name ∷ []))).1
    → (tree_step letters tree (open_read_stream (name ∷ []))).1 ≡ refused e → ⊥
not_refused letters tree name e is told = by (object_at letters tree (name ∷ [])) is told
  where
    by : (o : Option Object) → yes true ≡ yes (is_stream_found o) → (on_stream tree (λ b. (tree, has_bytes b)) o).1 ≡ refused e → ⊥
    by None is told = absurd (cc)
    by (Some (a_stream key bits content)) is told = absurd (cc)
    by (Some (a_storage key facts inside)) is told = absurd (cc)

-- of a text that is a path of one name
module _ (letters : CaseTable) (tree : Tree) (text name : List ℕ) (one : names_in text ≡ Some (name ∷ [])) where
  pub none_of : (b : Bool) → b ≡ false → yes b ≡ said_at letters tree is_stream (names_in text) → stream_at letters (objects tree.content) name ≡ None
  none_of b is told = none_at letters tree name (ap (λ b. yes b) (sym is) ∙ told ∙ ap (said_at letters tree is_stream) one)

  pub some_of : (bytes : List ℕ) → answer_at letters tree open_read_stream (names_in text) ≡ has_bytes bytes → stream_at letters (objects tree.content) name ≡ Some bytes
  some_of bytes told = read_at letters tree name bytes (ap (answer_at letters tree open_read_stream) (sym one) ∙ told)

  pub refused_of : (b : Bool) (e : Error) → b ≡ true → yes b ≡ said_at letters tree is_stream (names_in text) → answer_at letters tree open_read_stream (names_in text) ≡ refused e → ⊥
  refused_of b e is told answer =
      not_refused letters tree name e (ap (λ b. yes b) (sym is) ∙ told ∙ ap (said_at letters tree is_stream) one) (ap (answer_at letters tree open_read_stream) (sym one) ∙ answer)

pub unslashed : (name : List ℕ) → has_slash name ≡ false → list_all (λ b. not (b == 47)) name ≡ true
unslashed [] e = refl
unslashed (b ∷ bs) e = by (b == 47) e (unslashed bs)
  where
    by : (x : Bool) → (x || has_slash bs) ≡ false → (has_slash bs ≡ false → list_all (λ b. not (b == 47)) bs ≡ true) → (not x && list_all (λ b. not (b == 47)) bs) ≡ true
    by true e later = absurd (cc)
    by false e later = later e

-- the encoded name of a table is a path of one name, also where the name is empty
pub table_path : (name : List ℕ) → IsUtf8 name → has_slash name ≡ false → names_in (encode_utf8_all (spelled_name true (chars name))) ≡ Some (spelled_name true (chars name) ∷ [])
table_path name text none = path_filled true name text (omega arith) (unslashed name none)
