-- What a page has.
use Rattle.std.specs.Prelude.{◌≡◌, ◌++◌, List, ℕ, true}
use Rattle.e3_report.specs.declared.page.Page.{Page}

-- memory was never lacking, and the page has this text
abbrev pub Reads : Page → List ℕ → Type 0
Reads page text = (page.is_whole ≡ true) × (page.text ≡ text)

-- where memory was never lacking, it was not before either, and the page has this text behind what it had
abbrev pub Adds : Page → Page → List ℕ → Type 0
Adds old new text = new.is_whole ≡ true → (old.is_whole ≡ true) × (new.text ≡ old.text ++ text)
