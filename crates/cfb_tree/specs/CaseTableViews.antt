-- What a case table in memory says.
use Rattle.std.specs.Prelude.{◌≡◌, ℕ}
use Rattle.cfb_tree.specs.Names.{letter, CaseTable}
use Rattle.cfb_tree.specs.declared.letters.CaseMapper.{CaseMapper}

-- its pairs, each left side once, in their order ([MS-CFB] 2.6.4)
abbrev pub case_table_of : CaseMapper → CaseTable
case_table_of m = m.letters.entries

-- both tables replace each character by the same one ([MS-CFB] 2.6.4)
abbrev pub ReplaceAlike : CaseTable → CaseTable → Type 0
ReplaceAlike one other = (c : ℕ) → letter one c ≡ letter other c
