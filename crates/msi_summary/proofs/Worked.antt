-- Worked summaries, computed from the definitions.
use Rattle.std.proofs.Common.{◌≡◌, [], ◌∷◌, refl, length}
use Rattle.std.specs.Prelude.{Some, None, codes}
use Rattle.std.specs.Fmt.{digits}
use Rattle.msi_props.specs.Props.{Props, props_bytes}
use Rattle.msi_summary.specs.Summary.{new_summary, edited, set_text, set_arch, set_languages, set_keywords, set_page, text_field, arch_of, languages_of}
use Rattle.msi_texts.specs.declared.codepage.CodePage.TheVariants as page

created_length : length (props_bytes (edited (set_text 2 (Some (codes "Installation Database"))) new_summary)) ≡ 112
created_length = refl

with_nine : Props
with_nine = edited (set_languages (Some (9 ∷ []))) new_summary

languages_set : text_field 7 with_nine ≡ Some (codes ";9")
unfolding with_nine digits
languages_set = refl

no_arch : arch_of with_nine ≡ None
unfolding with_nine digits
no_arch = refl

languages_back : languages_of with_nine ≡ 9 ∷ []
unfolding with_nine digits
languages_back = refl

arch_set : text_field 7 (edited (set_arch (Some (codes "Intel"))) with_nine) ≡ Some (codes "Intel;9")
unfolding with_nine digits
arch_set = refl

arch_alone : text_field 7 (edited (set_arch (Some (codes "x64"))) (edited (set_text 7 (Some (codes "Intel"))) new_summary)) ≡ Some (codes "x64;")
arch_alone = refl

keywords_cleared : text_field 5 (edited (set_keywords None) new_summary) ≡ Some []
keywords_cleared = refl

page_changes : (edited (set_page page.Utf8) (edited (set_page page.Windows1252) new_summary)).page ≡ page.Utf8
page_changes = refl
