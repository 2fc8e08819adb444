-- Cells, and lists of cells, are equal by their order just where they are one.
use Rattle.std.proofs.Common.{◌≡◌, ◌∙◌, true, List, [], ◌∷◌, refl, sym, ap, ap₂}
use Rattle.std.specs.declared.cmp.Ordering.{Ordering}
use Rattle.std.specs.declared.cmp.Ordering.TheVariants.{Less, Equal, Greater}
use Rattle.std.specs.Ordering.{is_eq, ordering_then}
use Rattle.std.specs.Cmp.Lexicographic.{slice_cmp}
use Rattle.std.proofs.lemmas.Map.Lookups.{exact_bytes, exact_signed}
use Rattle.std.proofs.lemmas.Cmp.{nat_list_cmp_total, int_cmp_total, tied_itself}
use Rattle.msi_listing.specs.Content.{CellContent, null, number, text, bytes}
use Rattle.package_rules.specs.Keys.{cell_cmp, same_key}

pub compared_equal : (a b : CellContent) → cell_cmp a b ≡ Equal → a ≡ b
compared_equal null null h = refl
compared_equal null (number y) h = cc
compared_equal null (text t) h = cc
compared_equal null bytes h = cc
compared_equal (number x) null h = cc
compared_equal (number x) (number y) h = ap number (exact_signed x y h)
compared_equal (number x) (text t) h = cc
compared_equal (number x) bytes h = cc
compared_equal (text s) null h = cc
compared_equal (text s) (number y) h = cc
compared_equal (text s) (text t) h = ap text (exact_bytes s t h)
compared_equal (text s) bytes h = cc
compared_equal bytes null h = cc
compared_equal bytes (number y) h = cc
compared_equal bytes (text t) h = cc
compared_equal bytes bytes h = refl

pub equal_itself : (a : CellContent) → cell_cmp a a ≡ Equal
equal_itself null = refl
equal_itself (number x) = tied_itself int_cmp_total x
equal_itself (text s) = tied_itself nat_list_cmp_total s
equal_itself bytes = refl

pub is_equal : (o : Ordering) → is_eq o ≡ true → o ≡ Equal
is_equal Less h = absurd (cc h)
is_equal Equal h = refl
is_equal Greater h = absurd (cc h)

both_equal : (a b : Ordering) → ordering_then a b ≡ Equal → (a ≡ Equal) × (b ≡ Equal)
both_equal Less b h = absurd (cc h)
both_equal Equal b h = (refl, h)
both_equal Greater b h = absurd (cc h)

lists_equal : (xs ys : List CellContent) → slice_cmp cell_cmp xs ys ≡ Equal → xs ≡ ys
lists_equal [] [] h = refl
lists_equal [] (y ∷ ys) h = absurd (cc h)
lists_equal (x ∷ xs) [] h = absurd (cc h)
lists_equal (x ∷ xs) (y ∷ ys) h =
    let parts = both_equal (cell_cmp x y) (slice_cmp cell_cmp xs ys) h in
    ap₂ (λ v vs. v ∷ vs) (compared_equal x y parts.0) (lists_equal xs ys parts.1)

list_itself : (xs : List CellContent) → slice_cmp cell_cmp xs xs ≡ Equal
list_itself [] = refl
list_itself (x ∷ xs) = ap₂ ordering_then (equal_itself x) (list_itself xs)

-- two keys are one just where they have the same cells
pub one_key : (k q : List CellContent) → same_key k q ≡ true → k ≡ q
one_key k q h = lists_equal k q (is_equal (slice_cmp cell_cmp k q) h)

pub key_itself : (k q : List CellContent) → k ≡ q → same_key k q ≡ true
key_itself k q e = ap (same_key k) (sym e) ∙ ap is_eq (list_itself k)
