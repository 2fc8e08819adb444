-- A set read part by part.
use Rattle.std.proofs.Common.{◌≡◌, ℕ, List, drop, Ok}
use Rattle.msi_texts.specs.declared.codepage.CodePage.{CodePage}
use Rattle.msi_props.specs.Props.{Head, Property, head_at, section_at, page_at, properties_at, stored_props}

pub set_read : (bytes section : List ℕ) (head : Head) (pairs : List (ℕ × ℕ)) (p : CodePage) (values : List (ℕ × Property))
    → head_at bytes ≡ Ok head → section ≡ drop head.offset bytes → section_at section ≡ Ok pairs → page_at section pairs ≡ Ok p → properties_at head.version section pairs ≡ Ok values
    → stored_props bytes ≡ Ok (record { system = head.system; system_version = head.system_version; class = head.class; sections = head.sections; format = head.format; page = p; values = values })
set_read bytes section head pairs p values begins there first told stand =
    let here = rw there at first in
    let page_here = rw there at told in
    let values_here = rw there at stand in
    rw (begins, here, page_here, values_here)
