-- Sectors that are taken into use one after the other.
use Rattle.std.proofs.Common.{◌≡◌, ℕ, List, [], ◌∷◌, ◌++◌, ◌+◌, ◌*◌, ◌-◌, length, take, drop, min, replicate, zero, suc, refl, ap, sym, subst, ◌∙◌, ⊎_elim, append_assoc, arith, length-append, length-take, Bor}
use Rattle.std.proofs.lemmas.List.{append-nil, drop_all, length-replicate}
use Rattle.std.proofs.lemmas.Bool.Decides.{leb_tells}
use Rattle.cfb_sectors.specs.Copies.{copies}
use Rattle.cfb_sectors.specs.Initial.{initial, filling, first_bytes, padded}
use Rattle.cfb_sectors.specs.declared.initial.NewSector.{NewSector}
use Rattle.cfb_sectors.specs.declared.initial.NewSector.TheVariants.{Bytes, Init}
use Rattle.cfb_sectors.specs.declared.initial.SectorInit.{SectorInit}

-- copies, and one more
pub copies_more : (k : ℕ) (piece : List ℕ) → copies k piece ++ piece ≡ copies (suc k) piece
copies_more zero piece = sym (append-nil piece)
copies_more (suc k) piece = append_assoc piece (copies k piece) piece ∙ ap (λ l. piece ++ l) (copies_more k piece)

-- so many bytes, one by one
pad : ℕ → List ℕ → List ℕ
pad zero xs = []
pad (suc n) [] = 0 ∷ pad n []
pad (suc n) (x ∷ xs) = x ∷ pad n xs

is_pad : (n : ℕ) (xs : List ℕ) → padded n xs ≡ pad n xs
unfolding pad
is_pad zero xs = let none : 0 - length xs ≡ 0 = omega arith in ap (λ k. replicate k 0) none
is_pad (suc n) [] = let all : suc n - 0 ≡ suc n = omega arith in ap (λ k. replicate k 0) all ∙ ap (λ l. 0 ∷ l) (zeros n)
  where
    zeros : (n : ℕ) → replicate n 0 ≡ pad n []
    zeros zero = refl
    zeros (suc n) = ap (λ l. 0 ∷ l) (zeros n)
is_pad (suc n) (x ∷ xs) =
    let rest : suc n - suc (length xs) ≡ n - length xs = omega arith in
    ap (λ k. x ∷ take n xs ++ replicate k 0) rest ∙ ap (λ l. x ∷ l) (is_pad n xs)

pad_more : (a b : ℕ) (xs : List ℕ) → pad a xs ++ pad b (drop a xs) ≡ pad (a + b) xs
unfolding pad
pad_more zero b xs = let same : b ≡ 0 + b = omega arith in ap (λ k. pad k xs) same
pad_more (suc a) b [] =
    let same : suc (a + b) ≡ suc a + b = omega arith in
    let none : drop (suc a) [] ≡ drop a [] = sym (drop_all a [] (omega arith)) in
    ap (λ l. pad (suc a) [] ++ pad b l) none ∙ ap (λ l. 0 ∷ l) (pad_more a b []) ∙ ap (λ k. pad k []) same
pad_more (suc a) b (x ∷ xs) = let same : suc (a + b) ≡ suc a + b = omega arith in ap (λ l. x ∷ l) (pad_more a b xs) ∙ ap (λ k. pad k (x ∷ xs)) same

-- so many bytes, and those behind them
pub padded_more : (a b : ℕ) (xs : List ℕ) → padded a xs ++ padded b (drop a xs) ≡ padded (a + b) xs
padded_more a b xs = ap (λ l. l ++ padded b (drop a xs)) (is_pad a xs) ∙ ap (λ l. pad a xs ++ l) (is_pad b (drop a xs)) ∙ pad_more a b xs ∙ sym (is_pad (a + b) xs)

drop_least : (n : ℕ) (xs : List ℕ) → drop (min n (length xs)) xs ≡ drop n xs
drop_least n xs = ⊎_elim
    (λ few. let least : min n (length xs) ≡ n = omega (arith, few.1) in ap (λ k. drop k xs) least)
    (λ many. let least : min n (length xs) ≡ length xs = omega (arith, many.1) in ap (λ k. drop k xs) least ∙ drop_all (length xs) xs (omega arith) ∙ sym (drop_all n xs (omega (arith, many.1))))
    (leb_tells n (length xs))

-- what lies behind so many sectors is what the next one holds
pub filling_more : (s : NewSector) (front : Bor (List ℕ)) (rest : Bor (List ℕ)) (done count len : ℕ) → s ≡ Bytes front → done ≡ count * len → rest.now ≡ drop (min done (length front.now)) front.now
    → filling s count len ++ first_bytes (Bytes rest) len ≡ filling s (count + 1) len
filling_more s front rest done count len is here behind =
    let one : count * len + len ≡ (count + 1) * len = omega arith in
    subst (λ t. filling t count len ++ padded len rest.now ≡ filling t (count + 1) len) (sym is)
    (ap (λ l. padded (count * len) front.now ++ padded len l) (behind ∙ drop_least done front.now ∙ ap (λ k. drop k front.now) here)
    ∙ padded_more (count * len) len front.now ∙ ap (λ k. padded k front.now) one)

more : (k : ℕ) → suc k ≡ k + 1
more k = omega arith

-- and where it is of a kind it is what each one holds
pub filling_again : (s : NewSector) (init : SectorInit) (count len : ℕ) → s ≡ Init init → filling s count len ++ first_bytes s len ≡ filling s (count + 1) len
filling_again s init count len is =
    subst (λ t. filling t count len ++ first_bytes t len ≡ filling t (count + 1) len) (sym is)
    (copies_more count (initial init len) ∙ ap (λ k. copies k (initial init len)) (more count))

-- no sectors hold nothing
pub filling_none : (s : NewSector) (len : ℕ) → filling s 0 len ≡ []
unfolding pad
filling_none (Init init) len = refl
filling_none (Bytes front) len = let none : 0 * len ≡ 0 = omega arith in ap (λ n. padded n front.now) none ∙ is_pad 0 front.now

pub length-padded : (len : ℕ) (xs : List ℕ) → length (padded len xs) ≡ len
length-padded len xs =
    let front = length-take len xs in
    let zeros : length (replicate {A = ℕ} (len - length xs) 0) ≡ len - length xs = length-replicate (len - length xs) 0 in
    length-append (take len xs) (replicate (len - length xs) 0) ∙ omega (arith, front, zeros)
