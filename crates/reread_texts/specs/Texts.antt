-- What bytes read as in a page of one's choice.
use Rattle.std.specs.Prelude.{ℕ, ◌==◌, Bool, if◌then◌else◌, List, Option, Some, None, option_map, count_by, encode_utf8_all}
use Rattle.msi_pool.specs.PoolReading.{text_round_trips}
use Rattle.msi_texts.specs.Page.{decoded, page_id}
use Rattle.reread_texts.specs.declared.page.TextPage.{TextPage}
use Rattle.reread_texts.specs.declared.page.TextPage.TheVariants.{Known, Whole}
use Rattle.whole_pages.specs.Page.{characters, page_with_id}
use Rattle.whole_pages.specs.declared.page.WholePage.{WholePage}

-- where there is no whole table, the page that packages know
abbrev pub whole_or : Option WholePage → ℕ → Option TextPage
whole_or (Some p) id = Some (Whole p)
whole_or None id = option_map Known (page_id id)

-- the page of a number; 951 is read as 950
abbrev pub text_page : ℕ → Option TextPage
text_page id = whole_or (page_with_id (if id == 951 then 950 else id)) id

-- the text that bytes read as
abbrev pub text_of : TextPage → List ℕ → List ℕ
text_of (Known p) bytes = decoded p bytes
text_of (Whole p) bytes = encode_utf8_all (characters p bytes)

-- each of them has a character
abbrev pub all_have_characters : TextPage → List ℕ → Bool
all_have_characters (Known p) bytes = text_round_trips p bytes
all_have_characters (Whole p) bytes = count_by (λ c. c == 0xFFFD) (characters p bytes) == 0
