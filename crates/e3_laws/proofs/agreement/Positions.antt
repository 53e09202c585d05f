-- Which begin item a begin stands for: begins of a site come in the order of its items.
use Rattle.std.proofs.Common.{◌≡◌, inl, inr, ◌∷◌, [], ◌==◌, ℕ, zero, suc, Bool, true, false, List, Option, Some, None, refl, ap, subst, ◌∙◌, if◌then◌else◌, eqb-true}
use Rattle.std.specs.Prelude.{slice_get, option_map, filter_map}
use Rattle.e3_types.specs.declared.entries.Entry.{Entry}
use Rattle.e3_types.specs.declared.entries.Input.{Input}
use Rattle.e3_types.specs.declared.entries.Input.TheVariants as input
use Rattle.e3_types.specs.declared.scenarios.Item.{Item}
use Rattle.e3_types.specs.declared.scenarios.Item.TheVariants as item
use Rattle.e3_types.specs.declared.scenarios.Scenario.{Scenario}
use Rattle.e3_types.specs.declared.transactions.Op.TheVariants.{Read, Write}
use Rattle.e3_types.specs.declared.transactions.Txn.{Txn}
use Rattle.e3_world.specs.declared.names.Addressed.{Addressed}
use Rattle.e3_world.specs.Items.{begin_names, input_of, inputs_to, txn_of}
use Rattle.e3_laws.specs.agreement.Logs.{IsIn}

-- the input is a begin
abbrev pub is_begin : Input → Bool
is_begin (input.Begin sites) = true
is_begin i = false

-- one more, if it is so
abbrev pub add_if : Bool → ℕ → ℕ
add_if true n = suc n
add_if false n = n

-- how many begins there are among the first n inputs
abbrev pub begins_before : ℕ → List Input → ℕ
begins_before zero l = 0
begins_before (suc n) [] = 0
begins_before (suc n) (i ∷ l) = add_if (is_begin i) (begins_before n l)

add_swap : (b c : Bool) (n : ℕ) → add_if b (add_if c n) ≡ add_if c (add_if b n)
add_swap true true n = refl
add_swap true false n = refl
add_swap false c n = refl

-- one input more
pub begins_next : (n : ℕ) (l : List Input) (i : Input) → slice_get l n ≡ Some i → begins_before (suc n) l ≡ add_if (is_begin i) (begins_before n l)
begins_next n [] i is = cc
begins_next zero (x ∷ l) i is = let same : x ≡ i = cc in ap (λ z. add_if (is_begin z) 0) same
begins_next (suc n) (x ∷ l) i is = ap (add_if (is_begin x)) (begins_next n l i is) ∙ add_swap (is_begin x) (is_begin i) (begins_before n l)

abbrev planned : Scenario → List Entry → ℕ → List Item → List Input
planned sc h s items = inputs_to s (filter_map (input_of sc h) items)

-- the begin at a place among the inputs of a site, and the name at the place of that begin
abbrev Found : List Input → List (List ℕ) → List ℕ → List ℕ → Type 0
Found l names sites name = (n : ℕ) × (slice_get l n ≡ Some (input.Begin sites)) × (slice_get names (begins_before n l) ≡ Some name)

-- an input that is no begin is passed over
skip : (b : Bool) (i : Input) (l : List Input) (names : List (List ℕ)) (sites name : List ℕ) → is_begin i ≡ false → Found (if b then i ∷ l else l) names sites name → Found l names sites name
skip false i l names sites name other f = f
skip true i l names sites name other (zero, at, named) = absurd (let same : i ≡ input.Begin sites = cc in let this : is_begin i ≡ true = ap is_begin same in cc)
skip true i l names sites name other (suc n, at, named) = (n, at, subst (λ z. slice_get names z ≡ Some name) (ap (λ b. add_if b (begins_before n l)) other) named)

abbrev cons_of : Option Addressed → List Addressed → List Addressed
cons_of None rest = rest
cons_of (Some a) rest = a ∷ rest

bound_skip : (o : Option Txn) (f : Txn → Addressed) (s : ℕ) (rest : List Addressed) (names : List (List ℕ)) (sites name : List ℕ) → ((t : Txn) → is_begin (f t).input ≡ false)
    → Found (inputs_to s (cons_of (option_map f o) rest)) names sites name → Found (inputs_to s rest) names sites name
bound_skip None f s rest names sites name other k = k
bound_skip (Some t) f s rest names sites name other k = by ((f t).site == s) refl k
  where
    by : (b : Bool) → ((f t).site == s) ≡ b → Found (inputs_to s (f t ∷ rest)) names sites name → Found (inputs_to s rest) names sites name
    by true is k = skip true (f t).input (inputs_to s rest) names sites name (other t) (subst (λ z. Found z names sites name) (let e : inputs_to s (f t ∷ rest) ≡ (f t).input ∷ inputs_to s rest = rw is refl in e) k)
    by false is k = subst (λ z. Found z names sites name) (let e : inputs_to s (f t ∷ rest) ≡ inputs_to s rest = rw is refl in e) k

pub position : (sc : Scenario) (h : List Entry) (s : ℕ) (items : List Item) (sites name : List ℕ) → Found (planned sc h s items) (begin_names s items) sites name → IsIn (item.Begin name s sites) items
position sc h s [] sites name f = cc (f.1)
position sc h s (item.Begin nm u all ∷ items) sites name f = by (λ g. position sc h s items sites name g) (u == s) refl f
  where
    by : (Found (planned sc h s items) (begin_names s items) sites name → IsIn (item.Begin name s sites) items) → (b : Bool) → (u == s) ≡ b
        → Found (planned sc h s (item.Begin nm u all ∷ items)) (begin_names s (item.Begin nm u all ∷ items)) sites name → IsIn (item.Begin name s sites) (item.Begin nm u all ∷ items)
    by rest false is f =
        let inputs : planned sc h s (item.Begin nm u all ∷ items) ≡ planned sc h s items = rw is refl in
        let names : begin_names s (item.Begin nm u all ∷ items) ≡ begin_names s items = rw is refl in
        inr (rest (subst (λ z. Found z (begin_names s items) sites name) inputs (subst (λ z. Found (planned sc h s (item.Begin nm u all ∷ items)) z sites name) names f)))
    by rest true is f =
        let inputs : planned sc h s (item.Begin nm u all ∷ items) ≡ input.Begin all ∷ planned sc h s items = rw is refl in
        let names : begin_names s (item.Begin nm u all ∷ items) ≡ nm ∷ begin_names s items = rw is refl in
        here (subst (λ z. Found z (nm ∷ begin_names s items) sites name) inputs (subst (λ z. Found (planned sc h s (item.Begin nm u all ∷ items)) z sites name) names f))
      where
        here : Found (input.Begin all ∷ planned sc h s items) (nm ∷ begin_names s items) sites name → IsIn (item.Begin name s sites) (item.Begin nm u all ∷ items)
        here (zero, at, named) =
            let a : all ≡ sites = cc in
            let b : nm ≡ name = cc in
            let c : u ≡ s = eqb-true u s is in
            inl cc
        here (suc n, at, named) = inr (rest (n, at, named))
position sc h s (item.Read nm key ∷ items) sites name f = inr (position sc h s items sites name (bound_skip (txn_of sc h nm) (λ t. record { site = t.site; input = input.Do t (Read key) }) s (filter_map (input_of sc h) items) (begin_names s items) sites name (λ t. refl) f))
position sc h s (item.Write nm key val ∷ items) sites name f = inr (position sc h s items sites name (bound_skip (txn_of sc h nm) (λ t. record { site = t.site; input = input.Do t (Write key val) }) s (filter_map (input_of sc h) items) (begin_names s items) sites name (λ t. refl) f))
position sc h s (item.Commit nm ∷ items) sites name f = inr (position sc h s items sites name (bound_skip (txn_of sc h nm) (λ t. record { site = t.site; input = input.Commit t }) s (filter_map (input_of sc h) items) (begin_names s items) sites name (λ t. refl) f))
position sc h s (item.Cancel nm ∷ items) sites name f = inr (position sc h s items sites name (bound_skip (txn_of sc h nm) (λ t. record { site = t.site; input = input.Cancel t }) s (filter_map (input_of sc h) items) (begin_names s items) sites name (λ t. refl) f))
position sc h s (item.Expire u nm ∷ items) sites name f = inr (position sc h s items sites name (bound_skip (txn_of sc h nm) (λ t. record { site = u; input = input.Expire t }) s (filter_map (input_of sc h) items) (begin_names s items) sites name (λ t. refl) f))
position sc h s (item.Elect u nm group ∷ items) sites name f = inr (position sc h s items sites name (bound_skip (txn_of sc h nm) (λ t. record { site = u; input = input.Elect t group }) s (filter_map (input_of sc h) items) (begin_names s items) sites name (λ t. refl) f))
position sc h s (item.Recover all ∷ items) sites name f = inr (position sc h s items sites name f)
position sc h s (item.Split parts ∷ items) sites name f = inr (position sc h s items sites name f)
position sc h s (item.Merge ∷ items) sites name f = inr (position sc h s items sites name f)
position sc h s (item.Crash u ∷ items) sites name f = inr (position sc h s items sites name f)
position sc h s (item.Restart u ∷ items) sites name f = inr (position sc h s items sites name f)
position sc h s (item.Stop u count leave ∷ items) sites name f = inr (position sc h s items sites name f)
