-- The generated scenario of a number, as its value and as its text.
use Rattle.std.specs.Prelude.{◌∷◌, ◌++◌, [], ℕ, zero, suc, List, codes, map}
use Rattle.std.specs.Fmt.{decimal}
use Rattle.std.specs.List.{flat_map}
use Rattle.e3_types.specs.declared.scenarios.Item.{Item}
use Rattle.e3_types.specs.declared.scenarios.Scenario.{Scenario}
use Rattle.e3_report.specs.lines.Items.{item_text}
use Rattle.e3_gen.specs.Draws.{txn_words, behind_txns}
use Rattle.e3_gen.specs.Items.{items_of}

-- the items of the first transactions of a number
abbrev pub items_to : ℕ → ℕ → List Item
items_to n zero = []
items_to n (suc k) = items_to n k ++ items_of (suc k) (txn_words (behind_txns n k))

-- a step of one item
abbrev pub step_of : Item → List Item
step_of i = i ∷ []

-- five sites of weight 1, of a hundred packets twenty come twice, and these steps
abbrev pub scenario_with : ℕ → List (List Item) → Scenario
scenario_with n steps =
    record { weights = 1 ∷ 1 ∷ 1 ∷ 1 ∷ 1 ∷ []; rows = []; loss = 0; repeat = 20; luck = n; steps = steps }

-- the generated scenario of a number: its luck is the number, and so many transactions it has, one after the other
abbrev pub generated_scenario : ℕ → Scenario
generated_scenario n = scenario_with n (map step_of (items_to n n))

-- the lines before the luck, and the text behind it
unfoldable pub before_luck : List ℕ
before_luck = codes "weights = [1, 1, 1, 1, 1]\nrepeat = 20\nluck = "

unfoldable pub behind_luck : List ℕ
behind_luck = codes "\nsteps = [\n"

-- the lines before the items
abbrev pub head_lines : ℕ → List ℕ
head_lines n = before_luck ++ decimal n ++ behind_luck

-- the line of an item: two spaces, the item in quotes, and a comma
unfoldable pub item_row : Item → List ℕ
item_row i = codes "  \"" ++ item_text i ++ codes "\",\n"

-- the text of the generated scenario of a number
abbrev pub generated : ℕ → List ℕ
generated n = head_lines n ++ flat_map item_row (items_to n n) ++ codes "]\n"
