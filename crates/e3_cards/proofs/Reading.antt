-- What is read off cards that stand for a place.
use Rattle.std.specs.Prelude.{◌≡◌, ◌==◌, ◌&&◌, ◌++◌, if◌then◌else◌, ℕ, suc, Bool, not, List, length, fold, is_none, Option}
use Rattle.std.specs.List.{list_any, flat_map}
use Rattle.std.proofs.Common.{ap, sym, ◌∙◌}
use Rattle.e3_types.specs.declared.entries.Input.{Input}
use Rattle.e3_types.specs.declared.transactions.Op.{Op}
use Rattle.e3_types.specs.declared.transactions.Txn.{Txn}
use Rattle.e3_types.specs.Same.{same_txn}
use Rattle.e3_types.specs.Sets.{others}
use Rattle.e3_world.specs.declared.lives.Asked.{Asked}
use Rattle.e3_world.specs.declared.lives.At.{At}
use Rattle.e3_world.specs.declared.lives.Made.{Made}
use Rattle.e3_world.specs.declared.lives.Moment.{Moment}
use Rattle.e3_world.specs.declared.lives.Performed.{Performed}
use Rattle.e3_world.specs.declared.lives.SiteStep.{SiteStep}
use Rattle.e3_world.specs.Elections.{next_call}
use Rattle.e3_world.specs.Logs.{is_undecided}
use Rattle.e3_world.specs.Making.{log_now, steps_now}
use Rattle.e3_world.specs.Operations.{answers, arrivals, done, expected, issued, issued_in, nth_op, same_asked, unanswered, waiting}
use Rattle.e3_world.specs.Votes.{yes_by, yes_votes}
use Rattle.e3_readings.specs.Gathering.{are_complete, has_every_yes, have_come, missing_yes, votes_by}
use Rattle.e3_readings.proofs.Missing.{all_came, votes_step}
pub use Rattle.e3_readings.proofs.Results.{ok_is}
use Rattle.e3_cards.specs.declared.card.Card.{Card}
use Rattle.e3_cards.specs.declared.card.Heard.{Heard}
use Rattle.e3_cards.specs.declared.cards.Cards.{Cards}
use Rattle.e3_cards.specs.declared.seen.Seen.{Seen}
use Rattle.e3_cards.specs.Arriving.{answer_in, came_by, has_heard, heard_in, heard_of, performed_in, taken_of}
use Rattle.e3_cards.specs.Cards.{card_of}
use Rattle.e3_cards.specs.Issued.{number_told, numbers_told}
use Rattle.e3_readings.specs.Expecting.{own_expected}
use Rattle.e3_readings.specs.Awaiting.{first_of, is_number, is_at_site, is_awaited}
use Rattle.e3_cards.specs.Readings.{unanswered_of, expected_of, done_of, done_with}
use Rattle.e3_cards.specs.Seeing.{seen_of, seen_by}
use Rattle.e3_world.specs.Transactions.{IsFoundByBits}
use Rattle.e3_cards.specs.Tables.{CardsStand, card_at, call_now}
use Rattle.e3_cards.proofs.Answered.{done_is, waits_is, answer_is, waiting_is}
use Rattle.e3_cards.proofs.Arrivals.{came_push}
use Rattle.e3_cards.proofs.Counting.{unanswered_is, expected_is}
use Rattle.e3_cards.proofs.Keeping.{flat_push}
use Rattle.e3_cards.proofs.Progress.{lived, yes_step}
use Rattle.e3_cards.proofs.Seeing.{seen_more}

-- the card that is found is the place's
pub is_card : (cards : Cards) (t : Txn) (c : Card) (a : At) → c ≡ card_at cards.map.entries t → IsFoundByBits t → CardsStand a.site cards a.life → c ≡ card_of a.site t a.life
is_card cards t c a e known stands = e ∙ stands.cards_are t known

-- the step so far, as the step of a life
abbrev so_far : At → Made → SiteStep
so_far a made = record { input = a.input; records = made.records; outs = made.outs; told = made.told }

-- the transaction is undecided, by its card and the step's records
pub open_is : (t : Txn) (a : At) (made : Made) (c : Card) → c ≡ card_of a.site t a.life
    → is_none (fold (seen_by t) c.seen made.records).decision ≡ is_undecided t (log_now a made)
open_is t a made c e =
    ap (λ (k : Card). is_none (fold (seen_by t) k.seen made.records).decision) e
    ∙ ap (λ (s : Seen). is_none s.decision) (seen_more t a.life.log made.records)

pub done_at : (t : Txn) (a : At) (c : Card) → c ≡ card_of a.site t a.life → done_of c ≡ done a.site t a.life.steps
done_at t a c e = ap done_of e ∙ done_is a.site t a.life.steps

-- the operations done with the step so far
pub done_now : (site : ℕ) (t : Txn) (a : At) (i : Input) (made : Made) (c : Card) → site ≡ a.site → a.input ≡ i → c ≡ card_of a.site t a.life
    → done_with site t c i made ≡ done a.site t (steps_now a made)
done_now site t a i made c own input e =
    let heard : heard_of t a.life.steps ++ heard_in t made.told made.outs ≡ heard_of t (steps_now a made) =
    sym (flat_push (λ k. heard_in t k.told k.outs) a.life.steps (lived a.life (so_far a made))) in
    let came = sym (came_push a.site t a.life.steps (lived a.life (so_far a made))) in
    ap (λ (k : Card). done_with site t k i made) e
    ∙ ap (λ (n : ℕ). done_with n t (card_of a.site t a.life) i made) own
    ∙ ap (λ (x : Input). done_with a.site t (card_of a.site t a.life) x made) (sym input)
    ∙ ap (λ (l : List Heard). flat_map (performed_in l) (came_by (seen_of t a.life.log) (card_of a.site t a.life).came (taken_of a.site t (length (issued t a.life.steps)) a.input made.told))) heard
    ∙ ap (λ (l : List Asked). flat_map (performed_in (heard_of t (steps_now a made))) l) came
    ∙ done_is a.site t (steps_now a made)

pub waits_at : (t : Txn) (a : At) (made : Made) (c : Card) → c ≡ card_of a.site t a.life
    → (is_none (fold (seen_by t) c.seen made.records).decision && list_any (λ q. not (has_heard c.heard q)) c.came)
    ≡ list_any (λ q. same_txn t q.txn) (waiting a.site (log_now a made) a.life.steps)
waits_at t a made c e =
    ap (λ (b : Bool). b && list_any (λ q. not (has_heard c.heard q)) c.came) (open_is t a made c e)
    ∙ ap (λ (k : Card). is_undecided t (log_now a made) && list_any (λ q. not (has_heard k.heard q)) k.came) e
    ∙ waits_is t (log_now a made) a.life.steps (arrivals a.site a.life.steps)

pub waiting_at : (q : Asked) (a : At) (made : Made) (c : Card) → c ≡ card_of a.site q.txn a.life
    → (is_none (fold (seen_by q.txn) c.seen made.records).decision && (list_any (same_asked q) c.came && not (has_heard c.heard q)))
    ≡ list_any (same_asked q) (waiting a.site (log_now a made) a.life.steps)
waiting_at q a made c e =
    ap (λ (b : Bool). b && (list_any (same_asked q) c.came && not (has_heard c.heard q))) (open_is q.txn a made c e)
    ∙ ap (λ (k : Card). is_undecided q.txn (log_now a made) && (list_any (same_asked q) k.came && not (has_heard k.heard q))) e
    ∙ waiting_is q (log_now a made) a.life.steps (arrivals a.site a.life.steps)

pub answer_at : (q : Asked) (a : At) (c : Card) → c ≡ card_of a.site q.txn a.life → answer_in c.heard q.n ≡ first_of (answers q a.life.steps)
answer_at q a c e = ap (λ (k : Card). answer_in k.heard q.n) e ∙ sym (answer_is q a.life.steps)

pub unanswered_at : (t : Txn) (a : At) (made : Made) (c : Card) → c ≡ card_of a.site t a.life
    → unanswered_of (length c.issued) c.answered (is_none (fold (seen_by t) c.seen made.records).decision) ≡ unanswered t (log_now a made) a.life.steps
unanswered_at t a made c e =
    ap (λ (b : Bool). unanswered_of (length c.issued) c.answered b) (open_is t a made c e)
    ∙ ap (λ (k : Card). unanswered_of (length k.issued) k.answered (is_undecided t (log_now a made))) e
    ∙ unanswered_is t (log_now a made) a.life.steps

-- operation n is awaited, with the step so far
pub awaited_at : (f : ℕ) (t : Txn) (n : ℕ) (a : At) (i : Input) (made : Made) (c : Card) → a.input ≡ i → c ≡ card_of a.site t a.life
    → (is_number n (unanswered_of (length (c.issued ++ issued_in t i made.told)) (c.answered ++ flat_map (number_told t) made.told) (is_none (fold (seen_by t) c.seen made.records).decision))
    && is_at_site f (nth_op n (c.issued ++ issued_in t i made.told)))
    ≡ is_awaited a f t n made
awaited_at f t n a i made c input e =
    let ops : issued t a.life.steps ++ issued_in t a.input made.told ≡ issued t (steps_now a made) =
    sym (flat_push (λ k. issued_in t k.input k.told) a.life.steps (lived a.life (so_far a made))) in
    let told : numbers_told t a.life.steps ++ flat_map (number_told t) made.told ≡ numbers_told t (steps_now a made) =
    sym (flat_push (λ k. flat_map (number_told t) k.told) a.life.steps (lived a.life (so_far a made))) in
    let all : c.issued ++ issued_in t i made.told ≡ issued t (steps_now a made) =
    ap (λ (k : Card). k.issued ++ issued_in t i made.told) e ∙ ap (λ (x : Input). issued t a.life.steps ++ issued_in t x made.told) (sym input) ∙ ops in
    let numbers : c.answered ++ flat_map (number_told t) made.told ≡ numbers_told t (steps_now a made) = ap (λ (k : Card). k.answered ++ flat_map (number_told t) made.told) e ∙ told in
    let undecided = open_is t a made c e in
    ap (λ (b : Bool). is_number n (unanswered_of (length (c.issued ++ issued_in t i made.told)) (c.answered ++ flat_map (number_told t) made.told) b) && is_at_site f (nth_op n (c.issued ++ issued_in t i made.told))) undecided
    ∙ ap (λ (l : List ℕ). is_number n (unanswered_of (length (c.issued ++ issued_in t i made.told)) l (is_undecided t (log_now a made))) && is_at_site f (nth_op n (c.issued ++ issued_in t i made.told))) numbers
    ∙ ap (λ (l : List Op). is_number n (unanswered_of (length l) (numbers_told t (steps_now a made)) (is_undecided t (log_now a made))) && is_at_site f (nth_op n l)) all
    ∙ ap (λ (o : Option ℕ). is_number n o && is_at_site f (nth_op n (issued t (steps_now a made)))) (unanswered_is t (log_now a made) (steps_now a made))

pub expected_at : (site inc of : ℕ) (t : Txn) (a : At) (c : Card) → site ≡ a.site → inc ≡ a.life.inc → c ≡ card_of a.site t a.life
    → (if site == of then own_expected inc (done_of c) else expected_of of c) ≡ expected a.site a.life.inc t a.life.steps of
expected_at site inc of t a c own same e =
    ap (λ (k : Card). if site == of then own_expected inc (done_of k) else expected_of of k) e
    ∙ ap (λ (n : ℕ). if n == of then own_expected inc (done_of (card_of a.site t a.life)) else expected_of of (card_of a.site t a.life)) own
    ∙ ap (λ (n : ℕ). if a.site == of then own_expected n (done_of (card_of a.site t a.life)) else expected_of of (card_of a.site t a.life)) same
    ∙ ap (λ (ps : List Performed). if a.site == of then own_expected a.life.inc ps else expected_of of (card_of a.site t a.life)) (done_is a.site t a.life.steps)
    ∙ expected_is a.site a.life.inc t a.life.steps of

pub yes_at : (site : ℕ) (t : Txn) (a : At) (i : Input) (made : Made) (c : Card) → site ≡ a.site → a.input ≡ i → c ≡ card_of a.site t a.life
    → are_complete (votes_by site t c.votes i made.told) ≡ has_every_yes a t made
yes_at site t a i made c own input e =
    let m : Moment = lived a.life (so_far a made) in
    ap (λ (n : ℕ). are_complete (votes_by n t c.votes i made.told)) own
    ∙ ap (λ (k : Card). are_complete (votes_by a.site t k.votes i made.told)) e
    ∙ ap (λ (x : Input). are_complete (votes_by a.site t (missing_yes a.site t (yes_votes t a.life.steps)) x made.told)) (sym input)
    ∙ ap are_complete (sym (votes_step a.site t (yes_votes t a.life.steps) m))
    ∙ all_came (others a.site t.sites) (yes_by t (yes_votes t a.life.steps) m)
    ∙ ap (λ (o : Option (List ℕ)). have_come (others a.site t.sites) o) (sym (yes_step t a.life (so_far a made)))

-- the call of an Elect that comes now
pub call_at : (cards : Cards) (a : At) → CardsStand a.site cards a.life → call_now cards ≡ next_call a.life.inc a.life.steps
call_at cards a stands = λ i. record { inc = stands.inc_is i; seq = suc (stands.calls_are i) }
