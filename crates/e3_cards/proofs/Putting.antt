-- Changes that are put in their places.
use Rattle.std.specs.Prelude.{◌≡◌, ◌||◌, ◌++◌, ◌∷◌, [], if◌then◌else◌, cond, count_by, ℕ, Bool, true, false, List, map, fold, Option, Some, None, unwrap_or, Result, Ok, Err, OnOk, IsSome, OnErr, is_some, ◌≤◌, ◌<◌, ◌+◌, ◌-◌, take, drop, length, suc}
use Rattle.std.specs.List.{list_any}
use Rattle.std.specs.Map.{lookup}
use Rattle.std.specs.BTreeMap.{is_at}
use Rattle.std.proofs.Common.{refl, ap, sym, subst, ◌∙◌, arith, get_or}
use Rattle.std.proofs.lemmas.Grind.{common_steps}
use Rattle.std.proofs.lemmas.List.Folds.{list_any-append}
use Rattle.e3_types.specs.declared.entries.Input.{Input}
use Rattle.e3_types.specs.declared.entries.Input.TheVariants as input
use Rattle.e3_types.specs.declared.list.NoMemory.{NoMemory}
use Rattle.e3_types.specs.declared.transactions.Call.{Call}
use Rattle.e3_types.specs.declared.transactions.Txn.{Txn}
use Rattle.e3_types.specs.Same.{same_txn}
use Rattle.e3_world.specs.declared.lives.Life.{Life}
use Rattle.e3_world.specs.declared.lives.SiteStep.{SiteStep}
use Rattle.e3_world.specs.declared.lives.Moment.{Moment}
use Rattle.e3_world.specs.Elections.{is_elect}
use Rattle.e3_world.specs.Lives.{life_by}
use Rattle.e3_world.specs.Steps.{is_begin}
use Rattle.e3_world.proofs.Turns.{true_not_false}
use Rattle.e3_readings.proofs.Equal.{same_txn_eq}
use Rattle.e3_cards.specs.declared.card.Card.{Card}
use Rattle.e3_cards.specs.declared.card.Change.{Change}
use Rattle.e3_cards.specs.declared.keys.TxnKey.{TxnKey}
use Rattle.e3_cards.specs.declared.cards.Cards.{Cards}
use Rattle.e3_cards.specs.declared.cards.Changes.{Changes}
use Rattle.e3_cards.specs.Cards.{card_of, card_by, blank, moment_of}
use Rattle.e3_world.specs.Transactions.{IsFoundByBits}
use Rattle.e3_cards.specs.Tables.{txn_key, key_cmp, CardsStand, card_at, call_now, named, add_once, touched, change_of, put, AreChanges, HasCard, HasRoom, IsRoomier}
use Rattle.e3_cards.proofs.Keeping.{card_step}
use Rattle.e3_cards.proofs.Progress.{lived, count_push}
use Rattle.e3_cards.proofs.Untouched.{same_key, untouched}

-- one more change
pub put_step : (ms ns : List (TxnKey × Card)) (c : Change) (k : TxnKey) (t : Txn) → IsFoundByBits c.txn → IsFoundByBits t → k ≡ txn_key c.txn
    → lookup (is_at (key_cmp (txn_key t))) ns ≡ cond (is_at (key_cmp k) (txn_key t)) (Some c.card) (lookup (is_at (key_cmp (txn_key t))) ms)
    → (was : Card) → card_at ms t ≡ was → card_at ns t ≡ put t was c
put_step ms ns c k t p q key e was is =
    ap (λ (o : Option Card). unwrap_or o blank) (e ∙ ap (λ (b : Bool). cond b (Some c.card) (lookup (is_at (key_cmp (txn_key t))) ms)) (ap (λ (x : TxnKey). is_at (key_cmp x) (txn_key t)) key ∙ same_key c.txn t p q))
    ∙ by (same_txn c.txn t)
  where
    by : (b : Bool) → unwrap_or (cond b (Some c.card) (lookup (is_at (key_cmp (txn_key t))) ms)) blank ≡ (if b then c.card else was)
    by true = refl
    by false = is

-- equal the other way round
pub same_turned : (t u : Txn) → same_txn u t ≡ same_txn t u
same_turned t u = by (same_txn u t) (same_txn t u) refl refl
  where
    by : (b c : Bool) → same_txn u t ≡ b → same_txn t u ≡ c → same_txn u t ≡ same_txn t u
    by true c e f = ap (λ (v : Txn). same_txn v t) (same_txn_eq u t e) ∙ ap (λ (v : Txn). same_txn t v) (sym (same_txn_eq u t e))
    by false true e f = ap (λ (v : Txn). same_txn v t) (sym (same_txn_eq t u f)) ∙ ap (λ (v : Txn). same_txn t v) (same_txn_eq t u f)
    by false false e f = e ∙ sym f

-- changes of these transactions, one after the other
put_all_of : (site : ℕ) (call : Call) (entries : List (TxnKey × Card)) (s : SiteStep) (t : Txn) (ts : List Txn) (x : Card)
    → fold (put t) x (map (change_of site call entries s) ts) ≡ (if list_any (same_txn t) ts then card_by site call t (card_at entries t) s else x)
put_all_of site call entries s t [] x = refl
put_all_of site call entries s t (u ∷ us) x = by (put_all_of site call entries s t us) (same_txn t u) refl
  where
    mine : Card
    mine = card_by site call t (card_at entries t) s

    same_both : (b : Bool) → (if b then mine else mine) ≡ mine
    same_both true = refl
    same_both false = refl

    by : ((y : Card) → fold (put t) y (map (change_of site call entries s) us) ≡ (if list_any (same_txn t) us then mine else y)) → (b : Bool) → same_txn t u ≡ b
        → fold (put t) x (map (change_of site call entries s) (u ∷ us)) ≡ (if list_any (same_txn t) (u ∷ us) then mine else x)
    by ih true is =
        let here : put t x (change_of site call entries s u) ≡ mine =
        rw (same_turned t u, is) (ap (λ (v : Txn). card_by site call v (card_at entries v) s) (sym (same_txn_eq t u is))) in
        ap (λ (y : Card). fold (put t) y (map (change_of site call entries s) us)) here ∙ ih mine ∙ same_both (list_any (same_txn t) us) ∙ rw is refl
    by ih false is =
        let here : put t x (change_of site call entries s u) ≡ x = rw (same_turned t u, is) refl in
        ap (λ (y : Card). fold (put t) y (map (change_of site call entries s) us)) here ∙ ih x ∙ rw is refl

-- among the transactions with one more are those before, and this one
among_more : (t : Txn) (acc : List Txn) (u : Txn) → list_any (same_txn t) (add_once acc u) ≡ (list_any (same_txn t) acc || same_txn t u)
among_more t acc u = by (list_any (same_txn u) acc) (same_txn t u) refl refl
  where
    by : (b c : Bool) → list_any (same_txn u) acc ≡ b → same_txn t u ≡ c → list_any (same_txn t) (add_once acc u) ≡ (list_any (same_txn t) acc || same_txn t u)
    by true true e f =
        let here : list_any (same_txn t) acc ≡ true = ap (λ (v : Txn). list_any (same_txn v) acc) (same_txn_eq t u f) ∙ e in
        rw (e, f, here) refl
    by true false e f = rw (e, f) (grind (arith, common_steps))
    by false c e f = rw e (list_any-append (same_txn t) acc (u ∷ []) ∙ grind (arith, common_steps))

among_all : (t : Txn) (us : List Txn) (acc : List Txn) → list_any (same_txn t) (fold add_once acc us) ≡ (list_any (same_txn t) acc || list_any (same_txn t) us)
among_all t [] acc = grind (arith, common_steps)
among_all t (u ∷ us) acc = let ih = among_all t us (add_once acc u) in let one = among_more t acc u in grind (arith, common_steps, ih, one)

-- all that a step touches, and so all
put_touched : (site : ℕ) (call : Call) (entries : List (TxnKey × Card)) (s : SiteStep) (t : Txn)
    → fold (put t) (card_at entries t) (map (change_of site call entries s) (touched s)) ≡ card_by site call t (card_at entries t) s
put_touched site call entries s t = put_all_of site call entries s t (touched s) (card_at entries t) ∙ by (list_any (same_txn t) (touched s)) refl
  where
    by : (b : Bool) → list_any (same_txn t) (touched s) ≡ b → (if b then card_by site call t (card_at entries t) s else card_at entries t) ≡ card_by site call t (card_at entries t) s
    by true is = refl
    by false is = sym (untouched site call t (card_at entries t) s (sym (among_all t (named s) []) ∙ is))

-- so they are the changes of the step
pub are_changes : (cards : Cards) (s : SiteStep) (begins calls : ℕ) (cs : List Change) → begins ≡ (if is_begin (moment_of s) then suc cards.begins else cards.begins)
    → calls ≡ (if is_elect (moment_of s) then suc cards.calls else cards.calls) → cs ≡ map (change_of cards.site (call_now cards) cards.map.entries s) (touched s)
    → AreChanges cards s (record { begins = begins; calls = calls; cards = cs })
are_changes cards s begins calls cs b c are = record {
  begins = b;
  calls = c;
  cards = λ t known. ap (fold (put t) (card_at cards.map.entries t)) are ∙ put_touched cards.site (call_now cards) cards.map.entries s t;
}

begin_same : (life : Life) (s : SiteStep) → is_begin (lived life s) ≡ is_begin (moment_of s)
begin_same life s = by s.input
  where
    by : (i : Input) → is_begin (lived life (record s { input = i })) ≡ is_begin (moment_of (record s { input = i }))
    by (input.Begin sites) = refl
    by _ = refl

elect_same : (life : Life) (s : SiteStep) → is_elect (lived life s) ≡ is_elect (moment_of s)
elect_same life s = by s.input
  where
    by : (i : Input) → is_elect (lived life (record s { input = i })) ≡ is_elect (moment_of (record s { input = i }))
    by (input.Elect u group) = refl
    by _ = refl

counted : (p : Moment → Bool) (life : Life) (s : SiteStep) (n k : ℕ) → p (lived life s) ≡ p (moment_of s) → n ≡ count_by p life.steps → k ≡ (if p (moment_of s) then suc n else n)
    → k ≡ count_by p (life.steps ++ lived life s ∷ [])
counted p life s n k same are e =
    e ∙ ap (λ (x : ℕ). if p (moment_of s) then suc x else x) are ∙ ap (λ (b : Bool). if b then suc (count_by p life.steps) else count_by p life.steps) (sym same)
    ∙ sym (count_push p life.steps (lived life s))

-- and the cards stand for the life with the step
pub stands_on : (was now : Cards) (s : SiteStep) (changes : Changes) → AreChanges was s changes → now.site ≡ was.site → now.inc ≡ was.inc
    → now.begins ≡ changes.begins → now.calls ≡ changes.calls
    → ((t : Txn) → IsFoundByBits t → card_at now.map.entries t ≡ fold (put t) (card_at was.map.entries t) changes.cards)
    → (site : ℕ) (life : Life) → CardsStand site was life → CardsStand site now (life_by life s)
stands_on was now s changes are site_kept inc_kept begins calls done site life stands = record {
  site_is = site_kept ∙ stands.site_is;
  inc_is = inc_kept ∙ stands.inc_is;
  begins_are = counted is_begin life s was.begins now.begins (begin_same life s) stands.begins_are (begins ∙ are.begins);
  calls_are = counted is_elect life s was.calls now.calls (elect_same life s) stands.calls_are (calls ∙ are.calls);
  cards_are = λ t known.
      let call : call_now was ≡ record { inc = life.inc; seq = suc (count_by is_elect life.steps) } =
      λ i. record { inc = stands.inc_is i; seq = suc (stands.calls_are i) } in
      done t known ∙ are.cards t known ∙ ap (λ (c : Card). card_by was.site (call_now was) t c s) (stands.cards_are t known)
      ∙ ap (λ (n : ℕ). card_by n (call_now was) t (card_of site t life) s) stands.site_is
      ∙ ap (λ (k : Call). card_by site k t (card_of site t life) s) call ∙ sym (card_step site t life s);
}

-- behind an insert
abbrev pub Inserts : List (TxnKey × Card) → List (TxnKey × Card) → TxnKey → Card → Type 0
Inserts ms ns k c = (q : TxnKey) → lookup (is_at (key_cmp q)) ns ≡ cond (is_at (key_cmp k) q) (Some c) (lookup (is_at (key_cmp q)) ms)

pub keys_stay : (ms ns : List (TxnKey × Card)) (k q : TxnKey) (c : Card) → Inserts ms ns k c → HasCard ms q → HasCard ns q
keys_stay ms ns k q c h has = let P : Option Card → Type 0 = λ o. IsSome o in subst P (sym (h q)) (by (is_at (key_cmp k) q))
  where
    by : (b : Bool) → IsSome (cond b (Some c) (lookup (is_at (key_cmp q)) ms))
    by true = refl
    by false = has

pub room_stays : (ms ns : List (TxnKey × Card)) → ((q : TxnKey) → HasCard ms q → HasCard ns q) → (cs : List Change) → HasRoom ms cs → HasRoom ns cs
room_stays ms ns h [] room = tt
room_stays ms ns h (c ∷ cs) room = (h (txn_key c.txn) room.0, room_stays ms ns h cs room.1)

-- keys that compare alike are one
key_eq : (k q : TxnKey) → is_at (key_cmp k) q ≡ true → k ≡ q
key_eq k q e = grind (arith, common_steps, e)

-- a blank card at a key without one
pub roomier : (ms ns : List (TxnKey × Card)) (k : TxnKey) → lookup (is_at (key_cmp k)) ms ≡ None → Inserts ms ns k blank → IsRoomier ms ns
roomier ms ns k none h = record {
  cards = λ t known. ap (λ (o : Option Card). unwrap_or o blank) (h (txn_key t)) ∙ by t (is_at (key_cmp k) (txn_key t)) refl;
  keys = λ q has. keys_stay ms ns k q blank h has;
}
  where
    by : (t : Txn) (b : Bool) → is_at (key_cmp k) (txn_key t) ≡ b → unwrap_or (cond b (Some blank) (lookup (is_at (key_cmp (txn_key t))) ms)) blank ≡ card_at ms t
    by t true e = sym (ap (λ (o : Option Card). unwrap_or o blank) (ap (λ (q : TxnKey). lookup (is_at (key_cmp q)) ms) (sym (key_eq k (txn_key t) e)) ∙ none))
    by t false e = refl

pub roomier_same : (ms ns : List (TxnKey × Card)) → ns ≡ ms → IsRoomier ms ns
roomier_same ms ns e = let P : List (TxnKey × Card) → Type 0 = λ l. IsRoomier ms l in subst P (sym e) (record { cards = λ t known. refl; keys = λ k has. has })

pub roomier_twice : (ms ns ps : List (TxnKey × Card)) → IsRoomier ms ns → IsRoomier ns ps → IsRoomier ms ps
roomier_twice ms ns ps a b = record { cards = λ t known. b.cards t known ∙ a.cards t known; keys = λ k has. b.keys k (a.keys k has) }

-- an insert that fails finds no card
pub no_card : (ms : List (TxnKey × Card)) (k : TxnKey) → HasCard ms k → lookup (is_at (key_cmp k)) ms ≡ None → ⊥
no_card ms k has e = let P : Option Card → Type 0 = λ o. IsSome o in true_not_false (sym (subst P e has))

none_of : (o : Option Card) → false ≡ is_some o → o ≡ None
none_of None e = refl
none_of (Some c) e = absurd (true_not_false (sym e))

pub roomier_by : (ms ns : List (TxnKey × Card)) (k : TxnKey) (c : Card) → c ≡ blank → false ≡ is_some (lookup (is_at (key_cmp k)) ms) → Inserts ms ns k c → IsRoomier ms ns
roomier_by ms ns k c e none h =
    roomier ms ns k (none_of (lookup (is_at (key_cmp k)) ms) none) (λ q. h q ∙ ap (λ (x : Card). cond (is_at (key_cmp k) q) (Some x) (lookup (is_at (key_cmp q)) ms)) e)

-- an insert of a blank card at a key without one, whether it comes to pass or not
pub room_result : {A E : Type 0} (r : Result A E) (ms ns : List (TxnKey × Card)) (k : TxnKey) (c : Card) → c ≡ blank → false ≡ is_some (lookup (is_at (key_cmp k)) ms)
    → OnOk r (Inserts ms ns k c) → OnErr r (ns ≡ ms) → IsRoomier ms ns
room_result (Ok x) ms ns k c e none put same = roomier_by ms ns k c e none put
room_result (Err x) ms ns k c e none put same = roomier_same ms ns same

-- an insert at a key with a card comes to pass
pub put_result : {A E : Type 0} (r : Result A E) (ms ns : List (TxnKey × Card)) (c : Change) (k : TxnKey) → IsFoundByBits c.txn → k ≡ txn_key c.txn → HasCard ms (txn_key c.txn)
    → OnOk r (Inserts ms ns k c.card) → OnErr r (lookup (is_at (key_cmp k)) ms ≡ None)
    → ((t : Txn) → IsFoundByBits t → card_at ns t ≡ put t (card_at ms t) c) × ((q : TxnKey) → HasCard ms q → HasCard ns q)
put_result (Ok x) ms ns c k known key has done absent =
    (λ t here. put_step ms ns c k t known here key (done (txn_key t)) (card_at ms t) refl, λ q. keys_stay ms ns k q c.card done)
put_result (Err x) ms ns c k known key has done none =
    let Q : TxnKey → Type 0 = λ q. HasCard ms q in absurd (no_card ms k (subst Q (sym key) has) none)

take_whole : (cs : List Change) → take (length cs) cs ≡ cs
take_whole [] = refl
take_whole (c ∷ cs) = ap (λ (l : List Change). c ∷ l) (take_whole cs)

pub slice_parts : (cs : List Change) (c : Change) → 1 ≤ length cs → c ≡ get_or cs 0 c → cs ≡ c ∷ take (length cs - 1) (drop 1 cs)
slice_parts [] c small e = absurd (omega arith)
slice_parts (x ∷ xs) c small e =
    let n : length xs ≡ suc (length xs) - 1 = omega arith in
    let first : x ≡ c = sym e in
    ap (λ (y : Change). y ∷ xs) first ∙ ap (λ (l : List Change). c ∷ l) (sym (take_whole xs)) ∙ ap (λ (k : ℕ). c ∷ take k xs) n

pub room_front : (ms : List (TxnKey × Card)) (all cs : List Change) (c : Change) → all ≡ c ∷ cs → HasRoom ms all → HasCard ms (txn_key c.txn) × HasRoom ms cs
room_front ms all cs c e room = let P : List Change → Type 0 = λ l. HasRoom ms l in subst P e room

pub ready_both : (r : Result Unit NoMemory) (ns ps : List (TxnKey × Card)) (all cs : List Change) (c : Change) (k : TxnKey) → k ≡ txn_key c.txn → all ≡ c ∷ cs → HasRoom ns cs
    → ((q : TxnKey) → HasCard ns q → HasCard ps q) → OnOk r (HasCard ps k) → OnOk r (HasRoom ps all)
ready_both (Ok x) ns ps all cs c k key e room keys has =
    let P : List Change → Type 0 = λ l. HasRoom ps l in
    let Q : TxnKey → Type 0 = λ q. HasCard ps q in
    subst P (sym e) (subst Q key has, room_stays ns ps keys cs room)
ready_both (Err x) ns ps all cs c k key e room keys has = tt

-- one more item of a map
pub map_more : {X Y : Type 0} (f : X → Y) (xs : List X) (i : ℕ) (x : X) (ys zs : List Y) (y : Y) → i < length xs → x ≡ get_or xs i x → ys ≡ map f (take i xs) → y ≡ f x → zs ≡ ys ++ y ∷ []
    → zs ≡ map f (take (i + 1) xs)
map_more f xs i x ys zs y h e d g k = grind (arith, common_steps, h, e, d, g, k)
