-- A chain of the FAT cut to the file's sectors is one of the whole FAT whose sectors are in the file.
use Rattle.std.proofs.Common.{◌≡◌, ℕ, ◌<◌, List, [], ◌∷◌, length, take, sym, subst, arith, length-take}
use Rattle.std.proofs.lemmas.Option.{slice_get_within}
use Rattle.cfb_medium.specs.declared.version.Version.{Version}
use Rattle.cfb_sectors.specs.Sectors.{sectors_in, AreInFile, Chain}
use Rattle.cfb_fat.proofs.DifatChains.{below_in_file, in_file_below}
use Rattle.cfb_fat.proofs.CutChains.{get_in_cut}

pub cut_of_chain : (v : Version) (b table : List ℕ) (start : ℕ) (ids : List ℕ) → AreInFile v b ids → Chain table start ids → Chain (take (sectors_in v (length b)) table) start ids
cut_of_chain v b table start [] there is = is
cut_of_chain v b table start (x ∷ ids) there (is, regular, next, found, rest) =
    let below = subst (λ n. n < sectors_in v (length b)) is (in_file_below v b x there.0) in
    (is, regular, next, get_in_cut (sectors_in v (length b)) table start next below found, cut_of_chain v b table next ids there.1 rest)

pub cut_in_file : (v : Version) (b table : List ℕ) (start : ℕ) (ids : List ℕ) → Chain (take (sectors_in v (length b)) table) start ids → AreInFile v b ids
cut_in_file v b table start [] is = tt
cut_in_file v b table start (x ∷ ids) (is, regular, next, found, rest) =
    let n = sectors_in v (length b) in
    let within = slice_get_within (take n table) start next found in
    let size = length-take n table in
    (below_in_file v b x (subst (λ k. k < n) (sym is) (omega (arith, within, size))), cut_in_file v b table next ids rest)
