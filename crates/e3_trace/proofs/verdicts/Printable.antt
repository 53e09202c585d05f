-- The values of a scenario that was read stand in one line: its texts are printable.
use Rattle.std.proofs.Common.{◌≡◌, ◌==◌, ◌+◌, ◌&&◌, ◌++◌, ◌∷◌, [], ℕ, zero, suc, Bool, true, false, not, nat_le, List, Option, Some, None, Result, Ok, Err, refl, subst, drop, length, map, if◌then◌else◌}
use Rattle.std.specs.Prelude.{position, option_map, option_and_then, bytes_eq, codes}
use Rattle.std.specs.List.{list_all, flat_map, AllByRecursion as Each}
use Rattle.std.specs.Option.{option_or}
use Rattle.std.proofs.lemmas.Bool.{and_parts}
use Rattle.toml.specs.Data.{Data, Members, as_str}
use Rattle.e3_types.specs.declared.scenarios.Item.{Item}
use Rattle.e3_types.specs.declared.scenarios.Item.TheVariants as item
use Rattle.e3_types.specs.declared.scenarios.KeyRow.{KeyRow}
use Rattle.e3_types.specs.declared.scenarios.Leave.{Leave}
use Rattle.e3_types.specs.declared.scenarios.Scenario.{Scenario}
use Rattle.e3_types.specs.declared.transactions.Key.{Key}
use Rattle.e3_types.specs.Sets.{has_site}
use Rattle.e3_world.specs.Given.{ItemsSoFar, is_groupable, close_step, rows_differ}
use Rattle.e3_world.specs.Packets.{sites_to, all_sites}
use Rattle.e3_scenario.specs.declared.faults.Field.{Field}
use Rattle.e3_scenario.specs.declared.faults.Field.TheVariants as field
use Rattle.e3_scenario.specs.declared.faults.ScenarioFault.{ScenarioFault}
use Rattle.e3_scenario.specs.declared.faults.ScenarioFault.TheVariants as fault
use Rattle.e3_scenario.specs.Documents.{document, keys_known, kind_fault, values_of, values_at, weights_of, row_with, row_of, row_in, more_rows, share_at, luck_at, steps_fit}
use Rattle.e3_scenario.specs.Faults.{item_fault, take_item}
use Rattle.e3_scenario.specs.Items.{begin_of, read_of as item_read_of, write_of, commit_of, cancel_of, expire_of, elect_of, recover_of, split_of, merge_of, crash_of, restart_of, stop_of, transaction_item, site_item, item_by, item_of}
use Rattle.e3_scenario.specs.Parts.{name_of, value_of, site_of, sites_of, key_of, count_of, leave_of, parts_of}
use Rattle.e3_scenario.specs.Scenarios.{or_range, repeat_with, numbers_in, base_in, no_items_yet, fields_in, by_kind, by_document, scenario_of}
use Rattle.e3_scenario.specs.Steps.{and_read, or_fault, judged, item_in, StepSoFar, items_read, read_of, step_read, steps_read}
use Rattle.e3_scenario.specs.Words.{is_printable, before, after, rest, word}
use Rattle.e3_report.specs.lines.Marks.{space}
use Rattle.e3_laws.proofs.steps.Each.{each-append, each-push, each-map, IfAny}
use Rattle.e3_laws.specs.steps.Mentions.{values_in}
use Rattle.e3_laws.proofs.steps.Begun.Lists.{each-join}
use Rattle.e3_trace.specs.verdicts.Traces.{ValuesAreLines}
use Rattle.e3_report.specs.lines.Marks.{feed}
use Rattle.e3_trace.specs.Tellable.{lacks}
use Rattle.e3_trace.proofs.Cutting.{lacks_by}

-- a text in printable bytes, and a value in one line
abbrev IsPrintable : List ℕ → Type 0
IsPrintable text = list_all is_printable text ≡ true

abbrev IsLine : List ℕ → Type 0
IsLine val = lacks feed val ≡ true

-- an item, a row and a scenario whose values stand in one line
abbrev ItemLine : Item → Type 0
ItemLine it = Each IsLine (values_in it)

abbrev RowLine : KeyRow → Type 0
RowLine row = IsLine row.val

abbrev RowLines : Scenario → Type 0
RowLines sc = Each RowLine sc.rows

record ScenarioLines (sc : Scenario) : Type 0 where
  rows : Each RowLine sc.rows
  steps : Each (Each ItemLine) sc.steps

-- what is read
abbrev IfRead : {A : Type 0} → (A → Type 0) → Result A ScenarioFault → Type 0
IfRead P (Ok x) = P x
IfRead P (Err f) = Unit {0}

then_read : {A B : Type 0} (P : A → Type 0) (Q : B → Type 0) (r : Result A ScenarioFault) (next : A → Result B ScenarioFault) → IfRead P r → ((x : A) → P x → IfRead Q (next x)) →
    IfRead Q (and_read r next)
then_read P Q (Ok x) next is each = each x is
then_read P Q (Err f) next is each = tt

ranged : {A : Type 0} (P : A → Type 0) (f : Field) (o : Option A) → IfAny P o → IfRead P (or_range f o)
ranged P f None is = tt
ranged P f (Some x) is = is

any_of : {A : Type 0} (o : Option A) → IfAny (λ (x : A). Unit {0}) o
any_of None = tt
any_of (Some x) = tt

if_read : {A : Type 0} (P : A → Type 0) (c : Bool) (x y : Result A ScenarioFault) → IfRead P x → IfRead P y → IfRead P (if c then x else y)
if_read P true x y first second = first
if_read P false x y first second = second

if_any : {A : Type 0} (P : A → Type 0) (c : Bool) (x y : Option A) → IfAny P x → IfAny P y → IfAny P (if c then x else y)
if_any P true x y first second = first
if_any P false x y first second = second

-- parts of printable texts
printable_line : (text : List ℕ) → IsPrintable text → IsLine text
printable_line text all = lacks_by is_printable feed text refl all

printable_drop : (n : ℕ) (text : List ℕ) → IsPrintable text → IsPrintable (drop n text)
printable_drop zero text all = all
printable_drop (suc n) [] all = refl
printable_drop (suc n) (b ∷ text) all = printable_drop n text (and_parts (is_printable b) (list_all is_printable text) all).1

after_printable : (mark : ℕ) (text : List ℕ) → IsPrintable text → IfAny IsPrintable (after mark text)
after_printable mark text all = by (position (λ b. b == mark) text)
  where
    by : (o : Option ℕ) → IfAny IsPrintable (option_map (λ k. drop (k + 1) text) o)
    by None = tt
    by (Some k) = printable_drop (k + 1) text all

rest_printable : (n : ℕ) (text : List ℕ) → IsPrintable text → IfAny IsPrintable (rest n text)
rest_printable zero text all = all
rest_printable (suc n) text all = by (after space text) (after_printable space text all) (λ t is. rest_printable n t is)
  where
    by : (o : Option (List ℕ)) → IfAny IsPrintable o → ((t : List ℕ) → IsPrintable t → IfAny IsPrintable (rest n t)) → IfAny IsPrintable (option_and_then (rest n) o)
    by None is more = tt
    by (Some t) is more = more t is

value_line : (o : Option (List ℕ)) → IfAny IsPrintable o → IfAny IsLine (option_and_then value_of o)
value_line None is = tt
value_line (Some t) is = if_any IsLine (nat_le (length t) 256) (Some t) None (printable_line t is) tt

-- rows
row_line : (all : List ℕ) (k : Option Key) (v : Option (List ℕ)) → IfAny IsLine v → IfAny RowLine (row_with all k v)
row_line all None v is = tt
row_line all (Some key) None is = tt
row_line all (Some key) (Some val) is = if_any RowLine (has_site all key.site) (Some (record { key = key; val = val })) None is tt

row_text : (all : List ℕ) (text : List ℕ) → IfAny RowLine (row_of all text)
row_text all text = by (list_all is_printable text) refl
  where
    by : (c : Bool) → list_all is_printable text ≡ c →
        IfAny RowLine (if c then row_with all (key_of (before space text)) (option_and_then value_of (after space text)) else None)
    by true is = row_line all (key_of (before space text)) (option_and_then value_of (after space text)) (value_line (after space text) (after_printable space text is))
    by false is = tt

row_value : (all : List ℕ) (value : Data) → IfAny RowLine (row_in all value)
row_value all value = by (as_str value)
  where
    by : (o : Option (List ℕ)) → IfAny RowLine (option_and_then (row_of all) o)
    by None = tt
    by (Some text) = row_text all text

rows_lines : (all : List ℕ) (rows : List KeyRow) (values : List Data) → Each RowLine rows → IfAny (Each RowLine) (more_rows all rows values)
rows_lines all rows [] is = is
rows_lines all rows (value ∷ values) is = by (row_in all value) (row_value all value) (λ row this. rows_lines all (rows ++ row ∷ []) values (each-push RowLine rows row is this))
  where
    by : (o : Option KeyRow) → IfAny RowLine o → ((row : KeyRow) → RowLine row → IfAny (Each RowLine) (more_rows all (rows ++ row ∷ []) values)) →
        IfAny (Each RowLine) (option_and_then (λ row. more_rows all (rows ++ row ∷ []) values) o)
    by None this more = tt
    by (Some row) this more = more row this

-- items
mapped : {A : Type 0} (make : A → Item) → ((x : A) → ItemLine (make x)) → (o : Option A) → IfAny ItemLine (option_map make o)
mapped make each None = tt
mapped make each (Some x) = each x

begin_line : (text : List ℕ) → IfAny ItemLine (begin_of text)
unfolding begin_of
begin_line text = by (option_and_then name_of (word 1 text)) (option_and_then site_of (word 2 text)) (option_and_then sites_of (rest 3 text)) refl refl refl
  where
    by : (a : Option (List ℕ)) (b : Option ℕ) (c : Option (List ℕ)) → option_and_then name_of (word 1 text) ≡ a → option_and_then site_of (word 2 text) ≡ b →
        option_and_then sites_of (rest 3 text) ≡ c → IfAny ItemLine (begin_of text)
    by None b c p q r = rw p tt
    by (Some x) None c p q r = rw (p, q) tt
    by (Some x) (Some y) None p q r = rw (p, q, r) tt
    by (Some x) (Some y) (Some z) p q r = rw (p, q, r) tt

read_line : (text : List ℕ) → IfAny ItemLine (item_read_of text)
unfolding item_read_of
read_line text = by (option_and_then name_of (word 1 text)) (option_and_then key_of (rest 2 text)) refl refl
  where
    by : (a : Option (List ℕ)) (b : Option Key) → option_and_then name_of (word 1 text) ≡ a → option_and_then key_of (rest 2 text) ≡ b → IfAny ItemLine (item_read_of text)
    by None b p q = rw p tt
    by (Some x) None p q = rw (p, q) tt
    by (Some x) (Some y) p q = rw (p, q) tt

write_line : (text : List ℕ) → IsPrintable text → IfAny ItemLine (write_of text)
unfolding write_of
write_line text all =
    by (option_and_then name_of (word 1 text)) (option_and_then key_of (word 2 text)) (option_and_then value_of (rest 3 text)) refl refl refl (value_line (rest 3 text) (rest_printable 3 text all))
  where
    by : (a : Option (List ℕ)) (b : Option Key) (c : Option (List ℕ)) → option_and_then name_of (word 1 text) ≡ a → option_and_then key_of (word 2 text) ≡ b →
        option_and_then value_of (rest 3 text) ≡ c → IfAny IsLine c → IfAny ItemLine (write_of text)
    by None b c p q r is = rw p tt
    by (Some x) None c p q r is = rw (p, q) tt
    by (Some x) (Some y) None p q r is = rw (p, q, r) tt
    by (Some x) (Some y) (Some z) p q r is = rw (p, q, r) (is, tt)

expire_line : (text : List ℕ) → IfAny ItemLine (expire_of text)
unfolding expire_of
expire_line text = by (option_and_then site_of (word 1 text)) (option_and_then name_of (rest 2 text)) refl refl
  where
    by : (a : Option ℕ) (b : Option (List ℕ)) → option_and_then site_of (word 1 text) ≡ a → option_and_then name_of (rest 2 text) ≡ b → IfAny ItemLine (expire_of text)
    by None b p q = rw p tt
    by (Some x) None p q = rw (p, q) tt
    by (Some x) (Some y) p q = rw (p, q) tt

elect_line : (text : List ℕ) → IfAny ItemLine (elect_of text)
unfolding elect_of
elect_line text = by (option_and_then site_of (word 1 text)) (option_and_then name_of (word 2 text)) (option_and_then sites_of (rest 3 text)) refl refl refl
  where
    by : (a : Option ℕ) (b : Option (List ℕ)) (c : Option (List ℕ)) → option_and_then site_of (word 1 text) ≡ a → option_and_then name_of (word 2 text) ≡ b →
        option_and_then sites_of (rest 3 text) ≡ c → IfAny ItemLine (elect_of text)
    by None b c p q r = rw p tt
    by (Some x) None c p q r = rw (p, q) tt
    by (Some x) (Some y) None p q r = rw (p, q, r) tt
    by (Some x) (Some y) (Some z) p q r = rw (p, q, r) tt

stop_line : (text : List ℕ) → IfAny ItemLine (stop_of text)
unfolding stop_of
stop_line text = by (option_and_then site_of (word 1 text)) (option_and_then count_of (word 2 text)) (option_and_then leave_of (rest 3 text)) refl refl refl
  where
    by : (a : Option ℕ) (b : Option ℕ) (c : Option Leave) → option_and_then site_of (word 1 text) ≡ a → option_and_then count_of (word 2 text) ≡ b →
        option_and_then leave_of (rest 3 text) ≡ c → IfAny ItemLine (stop_of text)
    by None b c p q r = rw p tt
    by (Some x) None c p q r = rw (p, q) tt
    by (Some x) (Some y) None p q r = rw (p, q, r) tt
    by (Some x) (Some y) (Some z) p q r = rw (p, q, r) tt

commit_line : (text : List ℕ) → IfAny ItemLine (commit_of text)
unfolding commit_of
commit_line text = mapped item.Commit (λ x. tt) (option_and_then name_of (rest 1 text))

cancel_line : (text : List ℕ) → IfAny ItemLine (cancel_of text)
unfolding cancel_of
cancel_line text = mapped item.Cancel (λ x. tt) (option_and_then name_of (rest 1 text))

recover_line : (text : List ℕ) → IfAny ItemLine (recover_of text)
unfolding recover_of
recover_line text = mapped item.Recover (λ x. tt) (option_and_then sites_of (rest 1 text))

split_line : (text : List ℕ) → IfAny ItemLine (split_of text)
unfolding split_of
split_line text = mapped item.Split (λ x. tt) (option_and_then parts_of (rest 1 text))

merge_line : (text : List ℕ) → IfAny ItemLine (merge_of text)
unfolding merge_of
merge_line text = if_any ItemLine (bytes_eq text (codes "merge")) (Some item.Merge) None tt tt

crash_line : (text : List ℕ) → IfAny ItemLine (crash_of text)
unfolding crash_of
crash_line text = mapped item.Crash (λ x. tt) (option_and_then site_of (rest 1 text))

restart_line : (text : List ℕ) → IfAny ItemLine (restart_of text)
unfolding restart_of
restart_line text = mapped item.Restart (λ x. tt) (option_and_then site_of (rest 1 text))

transaction_line : (verb text : List ℕ) → IsPrintable text → IfAny ItemLine (transaction_item verb text)
unfolding transaction_item
transaction_line verb text all =
    if_any ItemLine (bytes_eq verb (codes "begin")) (begin_of text) _ (begin_line text)
    (if_any ItemLine (bytes_eq verb (codes "read")) (item_read_of text) _ (read_line text)
    (if_any ItemLine (bytes_eq verb (codes "write")) (write_of text) _ (write_line text all)
    (if_any ItemLine (bytes_eq verb (codes "commit")) (commit_of text) _ (commit_line text)
    (if_any ItemLine (bytes_eq verb (codes "cancel")) (cancel_of text) _ (cancel_line text)
    (if_any ItemLine (bytes_eq verb (codes "expire")) (expire_of text) _ (expire_line text)
    (if_any ItemLine (bytes_eq verb (codes "elect")) (elect_of text) None (elect_line text) tt))))))

site_line : (verb text : List ℕ) → IfAny ItemLine (site_item verb text)
unfolding site_item
site_line verb text =
    if_any ItemLine (bytes_eq verb (codes "recover")) (recover_of text) _ (recover_line text)
    (if_any ItemLine (bytes_eq verb (codes "merge")) (merge_of text) _ (merge_line text)
    (if_any ItemLine (bytes_eq verb (codes "crash")) (crash_of text) _ (crash_line text)
    (if_any ItemLine (bytes_eq verb (codes "restart")) (restart_of text) _ (restart_line text)
    (if_any ItemLine (bytes_eq verb (codes "stop")) (stop_of text) None (stop_line text) tt))))

or_any : (a b : Option Item) → IfAny ItemLine a → IfAny ItemLine b → IfAny ItemLine (option_or a b)
or_any None b first second = second
or_any (Some x) b first second = first

text_line : (text : List ℕ) → IfAny ItemLine (item_of text)
unfolding item_of item_by
text_line text = by (list_all is_printable text) refl
  where
    verb : List ℕ
    verb = before space text

    by : (c : Bool) → list_all is_printable text ≡ c →
        IfAny ItemLine (if c then (if bytes_eq verb (codes "split") then split_of text else option_or (transaction_item verb text) (site_item verb text)) else None)
    by true is = if_any ItemLine (bytes_eq verb (codes "split")) (split_of text) (option_or (transaction_item verb text) (site_item verb text)) (split_line text)
        (or_any (transaction_item verb text) (site_item verb text) (transaction_line verb text is) (site_line verb text))
    by false is = tt

item_line : (value : Data) → IfAny ItemLine (item_in value)
item_line value = by (as_str value)
  where
    by : (o : Option (List ℕ)) → IfAny ItemLine (option_and_then item_of o)
    by None = tt
    by (Some text) = text_line text

judged_line : (all : List ℕ) (step : ℕ) (grouped : Bool) (so_far : ItemsSoFar) (o : Option Item) → IfAny ItemLine o → IfRead ItemLine (judged all step grouped so_far o)
judged_line all step grouped so_far None is = tt
judged_line all step grouped so_far (Some it) is =
    if_read ItemLine (grouped && not (is_groupable it)) (Err (fault.BadLine step)) (or_fault it (item_fault all step so_far it)) tt (by (item_fault all step so_far it))
  where
    by : (o : Option ScenarioFault) → IfRead ItemLine (or_fault it o)
    by None = is
    by (Some f) = tt

abbrev StepLine : StepSoFar → Type 0
StepLine s = Each ItemLine s.items

items_lines : (all : List ℕ) (step : ℕ) (grouped : Bool) (so_far : ItemsSoFar) (items : List Item) (values : List Data) → Each ItemLine items → IfRead StepLine (items_read all step grouped so_far items values)
items_lines all step grouped so_far items [] is = is
items_lines all step grouped so_far items (value ∷ values) is =
    then_read ItemLine StepLine (judged all step grouped so_far (item_in value)) (λ it. items_read all step grouped (take_item all so_far it) (items ++ it ∷ []) values)
    (judged_line all step grouped so_far (item_in value) (item_line value))
    (λ it this. items_lines all step grouped (take_item all so_far it) (items ++ it ∷ []) values (each-push ItemLine items it is this))

step_line : (all : List ℕ) (step : ℕ) (so_far : ItemsSoFar) (value : Data) → IfRead StepLine (step_read all step so_far value)
step_line all step so_far value = by (values_of value)
  where
    by : (o : Option (List Data)) → IfRead StepLine (read_of all step so_far value o)
    by None = items_lines all step false so_far [] (value ∷ []) tt
    by (Some values) = items_lines all step true so_far [] values tt

steps_lines : (all : List ℕ) (step : ℕ) (so_far : ItemsSoFar) (steps : List (List Item)) (values : List Data) → Each (Each ItemLine) steps →
    IfRead (Each (Each ItemLine)) (steps_read all step so_far steps values)
steps_lines all step so_far steps [] is = is
steps_lines all step so_far steps (value ∷ values) is =
    then_read StepLine (Each (Each ItemLine)) (step_read all step so_far value) (λ read. steps_read all (suc step) (close_step read.so_far) (steps ++ read.items ∷ []) values)
    (step_line all step so_far value)
    (λ read this. steps_lines all (suc step) (close_step read.so_far) (steps ++ read.items ∷ []) values (each-push (Each ItemLine) steps read.items is this))

-- the whole
abbrev AnyNumber : ℕ → Type 0
AnyNumber n = Unit {0}

numbers_lines : (ms : Members) (weights : List ℕ) (rows : List KeyRow) → Each RowLine rows → IfRead RowLines (numbers_in ms weights rows)
numbers_lines ms weights rows is =
    then_read AnyNumber RowLines (or_range field.Loss (share_at ms (codes "loss"))) _ (ranged AnyNumber field.Loss (share_at ms (codes "loss")) (any_of (share_at ms (codes "loss"))))
    (λ loss u. then_read AnyNumber RowLines (or_range field.Repeat (repeat_with loss (share_at ms (codes "repeat")))) _
    (ranged AnyNumber field.Repeat (repeat_with loss (share_at ms (codes "repeat"))) (any_of (repeat_with loss (share_at ms (codes "repeat")))))
    (λ repeat v. then_read AnyNumber RowLines (or_range field.Luck (luck_at ms)) _ (ranged AnyNumber field.Luck (luck_at ms) (any_of (luck_at ms))) (λ luck w. is)))

base_lines : (ms : Members) → IfRead RowLines (base_in ms)
base_lines ms =
    then_read (λ (w : List ℕ). Unit {0}) RowLines (or_range field.Weights (weights_of (values_at ms (codes "weights")))) _
    (ranged (λ (w : List ℕ). Unit {0}) field.Weights (weights_of (values_at ms (codes "weights"))) (any_of (weights_of (values_at ms (codes "weights")))))
    (λ weights u. then_read (Each RowLine) RowLines (or_range field.Rows (more_rows (sites_to (length weights)) [] (values_at ms (codes "rows")))) _
    (ranged (Each RowLine) field.Rows (more_rows (sites_to (length weights)) [] (values_at ms (codes "rows"))) (rows_lines (sites_to (length weights)) [] (values_at ms (codes "rows")) tt))
    (λ rows is. numbers_lines ms weights rows is))

fields_lines : (ms : Members) → IfRead ScenarioLines (fields_in ms)
fields_lines ms = then_read RowLines ScenarioLines (base_in ms) _ (base_lines ms) (λ sc is.
    if_read ScenarioLines (not (steps_fit (values_at ms (codes "steps")))) (Err (fault.Range field.Steps)) _ tt
    (if_read ScenarioLines (not (rows_differ sc.rows)) (Err fault.RowTwice) _ tt
    (then_read (Each (Each ItemLine)) ScenarioLines (steps_read (all_sites sc) 1 (no_items_yet (all_sites sc)) [] (values_at ms (codes "steps"))) (λ steps. Ok (record sc { steps = steps }))
    (steps_lines (all_sites sc) 1 (no_items_yet (all_sites sc)) [] (values_at ms (codes "steps")) tt) (λ steps these. record { rows = is; steps = these }))))

kind_lines : (ms : Members) (o : Option Field) → IfRead ScenarioLines (by_kind ms o)
kind_lines ms None = fields_lines ms
kind_lines ms (Some f) = tt

document_lines : (o : Option Members) → IfRead ScenarioLines (by_document o)
document_lines None = tt
document_lines (Some ms) = if_read ScenarioLines (keys_known ms) (by_kind ms (kind_fault ms)) (Err fault.UnknownKey) (kind_lines ms (kind_fault ms)) tt

read_lines : (bytes : List ℕ) → IfRead ScenarioLines (scenario_of bytes)
read_lines bytes = if_read ScenarioLines (nat_le (length bytes) 4194304) (by_document (document bytes)) (Err fault.TooLong) (document_lines (document bytes)) tt

step_values : (steps : List (List Item)) → Each (Each ItemLine) steps → Each (λ items. Each IsLine (flat_map values_in items)) steps
step_values [] all = tt
step_values (items ∷ steps) all = (each-join IsLine values_in items all.0, step_values steps all.1)

-- the values of a scenario that was read
pub scenario_lines : (bytes : List ℕ) (sc : Scenario) → scenario_of bytes ≡ Ok sc → ValuesAreLines sc
scenario_lines bytes sc is =
    let R : Result Scenario ScenarioFault → Type 0 = IfRead ScenarioLines in
    let all : ScenarioLines sc = subst R is (read_lines bytes) in
    each-append IsLine (map (λ row. row.val) sc.rows) (flat_map (λ items. flat_map values_in items) sc.steps)
    (each-map IsLine (λ row. row.val) sc.rows all.rows)
    (each-join IsLine (λ items. flat_map values_in items) sc.steps (step_values sc.steps all.steps))
