-- Paths as texts.
use Rattle.std.proofs.Common.{◌≡◌, ℕ, ◌+◌, ◌<◌, take, get_or, length, append-nil, List, [], ◌∷◌, ◌++◌, chars, sym, ◌∙◌, ap, append_assoc, arith}
use Rattle.std.specs.Str.{IsUtf8, IsAscii}
use Rattle.std.specs.Borrow.{Bor}
use Rattle.std.proofs.lemmas.Grind.{flat_map-append}
use Rattle.std.proofs.lemmas.List.{map-append, take_more}
use Rattle.cfb_siblings.specs.Places.{path_of}
use Rattle.cfb_tree.specs.Paths.{Path}
use Rattle.cfb_entries.specs.Listed.{prefix_text}
use Rattle.std.proofs.lemmas.Str.{chars-append, chars-IsAscii, IsUtf8-from_ascii}

pub prefix_more : (front : Path) (name : List ℕ) → prefix_text (front ++ name ∷ []) ≡ prefix_text front ++ 47 ∷ name
prefix_more front name = flat_map-append (λ part. 47 ∷ part) front (name ∷ []) ∙ ap (λ xs. prefix_text front ++ 47 ∷ xs) (append-nil name)

slash_ascii : IsAscii (47 ∷ [])
slash_ascii = search arith

-- a child's path
pub child_chars : (prefix name slash begun longer whole : List ℕ) → IsUtf8 prefix → begun ≡ prefix → longer ≡ begun ++ slash → slash ≡ 47 ∷ [] → whole ≡ longer ++ name
    → chars whole ≡ chars prefix ++ 47 ∷ chars name
child_chars prefix name slash begun longer whole utf8 begins further is ends =
    ap chars (ends ∙ ap (λ bs. bs ++ name) (further ∙ ap (λ bs. bs ++ slash) begins ∙ ap (λ bs. prefix ++ bs) is)) ∙ ap chars (append_assoc prefix (47 ∷ []) name) ∙ chars-append prefix (47 ∷ name) utf8
    ∙ ap (λ cs. chars prefix ++ cs) (chars-append (47 ∷ []) name (IsUtf8-from_ascii (47 ∷ []) slash_ascii) ∙ ap (λ cs. cs ++ chars name) (chars-IsAscii (47 ∷ []) slash_ascii))

-- one name more of a path
pub longer_prefix : (names : List (Bor (List ℕ))) (i : ℕ) (d : Bor (List ℕ)) → i < length names → (text : List ℕ) → text ≡ prefix_text (path_of (take i names))
    → text ++ 47 ∷ chars (get_or names i d).now ≡ prefix_text (path_of (take (i + 1) names))
longer_prefix names i d below text is =
    ap (λ front. front ++ 47 ∷ chars (get_or names i d).now) is
    ∙ sym (prefix_more (path_of (take i names)) (chars (get_or names i d).now))
    ∙ ap prefix_text (sym (map-append (λ name. chars name.now) (take i names) (get_or names i d ∷ [])) ∙ ap path_of (sym (take_more names i d below)))
