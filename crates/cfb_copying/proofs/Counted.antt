-- How many sectors are copied.
use Rattle.std.proofs.Common.{◌≡◌, ℕ, ◌+◌, List, [], ◌∷◌, ◌++◌, length, refl, ap, ◌∙◌, arith, length-append}
use Rattle.std.specs.List.{flat_map}
use Rattle.std.proofs.lemmas.Grind.{flat_map-append}
use Rattle.cfb_ownership.specs.Owners.{mini_fat_owner, mini_stream_owner, stream_owner, Owners}
use Rattle.cfb_copying.specs.Steps.{sectors_among}

-- those of the streams of these entries
abbrev pub of_streams : Owners → List ℕ → List ℕ
of_streams who ids = flat_map (λ id. who.sectors (stream_owner id)) ids

pub sectors_size : (who : Owners) (ids : List ℕ) → length (sectors_among who ids) ≡ length (who.sectors mini_fat_owner) + length (who.sectors mini_stream_owner) + length (of_streams who ids)
sectors_size who ids =
    let minis = who.sectors mini_fat_owner ++ who.sectors mini_stream_owner in
    let all : length (sectors_among who ids) ≡ length minis + length (of_streams who ids) = length-append minis (of_streams who ids) in
    let both : length minis ≡ length (who.sectors mini_fat_owner) + length (who.sectors mini_stream_owner) = length-append (who.sectors mini_fat_owner) (who.sectors mini_stream_owner) in
    omega (arith, all, both)

-- those of some, one, and others
pub sectors_split : (who : Owners) (done : List ℕ) (id : ℕ) (rest : List ℕ) → length (sectors_among who (done ++ id ∷ rest)) ≡ length (sectors_among who done) + length (who.sectors (stream_owner id)) + length (of_streams who rest)
sectors_split who done id rest =
    let all = sectors_size who (done ++ id ∷ rest) in
    let some = sectors_size who done in
    let both : length (of_streams who (done ++ id ∷ rest)) ≡ length (of_streams who done) + length (of_streams who (id ∷ rest)) = ap length (flat_map-append (λ k. who.sectors (stream_owner k)) done (id ∷ rest)) ∙ length-append (of_streams who done) (of_streams who (id ∷ rest)) in
    let one : length (of_streams who (id ∷ rest)) ≡ length (who.sectors (stream_owner id)) + length (of_streams who rest) = length-append (who.sectors (stream_owner id)) (of_streams who rest) in
    omega (arith, all, some, both, one)

pub sectors_more : (who : Owners) (done : List ℕ) (id : ℕ) → length (sectors_among who (done ++ id ∷ [])) ≡ length (sectors_among who done) + length (who.sectors (stream_owner id))
sectors_more who done id = let all = sectors_split who done id [] in let none : length (of_streams who []) ≡ 0 = refl in omega (arith, all, none)
