-- Inserts that are put together one by one.
use Rattle.std.proofs.Common.{◌≡◌, ◌∙◌, ◌+◌, ◌<◌, ℕ, suc, map, length, take, List, [], ◌∷◌, ◌++◌, sym, ap, arith}
use Rattle.std.proofs.lemmas.List.{append-nil, map-append}
use Rattle.std.proofs.lemmas.List.Concat.{flat_map-append}
use Rattle.std.proofs.Math.Seq.{take-suc}
use Rattle.std.proofs.Math.ListN.{get_or}
use Rattle.command_file.specs.Request as asked
use Rattle.command_file.specs.Request.{Request}
use Rattle.msi_joined.specs.Joined.{joined_rows}
use Rattle.msi_values.specs.Datum.{Datum}
use Rattle.installer.specs.Groups.{inserts_of}

-- the items up to one more
pub taken_more : {X Y : Type 0} (f : X → Y) (xs : List X) (i : ℕ) (x : X) → i < length xs → x ≡ get_or xs i x → map f (take (i + 1) xs) ≡ map f (take i xs) ++ f x ∷ []
taken_more f xs i x less is =
    let one : i + 1 ≡ suc i = omega arith in
    rw one (ap (map f) (take-suc xs i x less ∙ ap (λ y. take i xs ++ y ∷ []) (sym is)) ∙ map-append f (take i xs) (x ∷ []))

-- commands that are such inserts, and all their rows
abbrev pub AreGrouped : List ℕ → List Request → List (List Datum) → Type 0
AreGrouped name requests all = (groups : List (List (List Datum))) × (requests ≡ inserts_of name groups) × (all ≡ joined_rows groups)

-- one more
pub grouped_more : (name next_name : List ℕ) (requests more_requests : List Request) (all more rows : List (List Datum)) (request : Request) → next_name ≡ name → more_requests ≡ requests ++ request ∷ [] → request ≡ asked.insert name rows
    → more ≡ all ++ rows → AreGrouped name requests all → AreGrouped next_name more_requests more
grouped_more name next_name requests more_requests all more rows request same taken is behind so = (
  so.0 ++ rows ∷ [],
  taken ∙ ap (λ r. requests ++ r ∷ []) is ∙ ap (λ rs. rs ++ asked.insert name rows ∷ []) so.1 ∙ sym (map-append (λ new. asked.insert name new) so.0 (rows ∷ [])) ∙ ap (λ n. inserts_of n (so.0 ++ rows ∷ [])) (sym same),
  behind ∙ ap (λ l. l ++ rows) so.2 ∙ sym (flat_map-append (λ new. new) so.0 (rows ∷ []) ∙ ap (λ l. joined_rows so.0 ++ l) (append-nil rows)),
)
