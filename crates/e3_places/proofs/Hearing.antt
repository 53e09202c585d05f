-- Whether an operation was answered, behind one more step.
use Rattle.std.specs.Prelude.{◌≡◌, ◌==◌, ◌&&◌, ◌||◌, ◌++◌, ◌∷◌, [], if◌then◌else◌, Bool, true, false, List}
use Rattle.std.specs.List.{list_any, flat_map}
use Rattle.std.proofs.Common.{refl, ap, sym, ◌∙◌}
use Rattle.std.proofs.lemmas.List.{append-nil}
use Rattle.std.proofs.lemmas.List.Concat.{flat_map-append}
use Rattle.e3_types.specs.declared.entries.Told.{Told}
use Rattle.e3_types.specs.declared.entries.Told.TheVariants as told
use Rattle.e3_types.specs.declared.messages.Message.{Message}
use Rattle.e3_types.specs.declared.messages.Message.TheVariants as msg
use Rattle.e3_types.specs.declared.messages.Packet.{Packet}
use Rattle.e3_types.specs.declared.transactions.Answer.{Answer}
use Rattle.e3_types.specs.Same.{same_txn}
use Rattle.e3_world.specs.declared.lives.Asked.{Asked}
use Rattle.e3_world.specs.declared.lives.Moment.{Moment}
use Rattle.e3_world.specs.Operations.{answers, answer_told, answer_sent, is_answered}
use Rattle.e3_places.specs.Standing.{is_told, is_sent, is_heard}

-- there is one
abbrev some_of : List Answer → Bool
some_of [] = false
some_of (x ∷ xs) = true

some_append : (xs ys : List Answer) → some_of (xs ++ ys) ≡ (some_of xs || some_of ys)
some_append [] ys = refl
some_append (x ∷ xs) ys = refl

some_flat : {X : Type 0} (f : X → List Answer) (p : X → Bool) → ((x : X) → some_of (f x) ≡ p x) → (xs : List X) → some_of (flat_map f xs) ≡ list_any p xs
some_flat f p h [] = refl
some_flat f p h (x ∷ xs) =
    some_append (f x) (flat_map f xs) ∙ ap (λ (b : Bool). b || some_of (flat_map f xs)) (h x) ∙ ap (λ (b : Bool). p x || b) (some_flat f p h xs)

some_if : (b : Bool) (answer : Answer) → some_of (if b then answer ∷ [] else []) ≡ b
some_if true answer = refl
some_if false answer = refl

told_one : (a : Asked) (e : Told) → some_of (answer_told a e) ≡ is_told a e
told_one a (told.Op t n answer) = some_if (a.n == n && same_txn a.txn t) answer
told_one a _ = refl

sent_one : (a : Asked) (p : Packet) → some_of (answer_sent a p) ≡ is_sent a p
sent_one a p = by p.msg
  where
    by : (k : Message) → some_of (answer_sent a (record p { msg = k })) ≡ is_sent a (record p { msg = k })
    by (msg.Done t n inc answer) = some_if (a.n == n && same_txn a.txn t) answer
    by _ = refl

abbrev answers_in : Asked → Moment → List Answer
answers_in a m = flat_map (answer_told a) m.told ++ flat_map (answer_sent a) m.outs

moment_one : (a : Asked) (m : Moment) → some_of (answers_in a m) ≡ is_heard m.told m.outs a
moment_one a m =
    some_append (flat_map (answer_told a) m.told) (flat_map (answer_sent a) m.outs)
    ∙ ap (λ (b : Bool). b || some_of (flat_map (answer_sent a) m.outs)) (some_flat (answer_told a) (is_told a) (told_one a) m.told)
    ∙ ap (λ (b : Bool). list_any (is_told a) m.told || b) (some_flat (answer_sent a) (is_sent a) (sent_one a) m.outs)

answered_some : (steps : List Moment) (a : Asked) → is_answered steps a ≡ some_of (answers a steps)
answered_some steps a = by (answers a steps) refl
  where
    by : (xs : List Answer) → answers a steps ≡ xs → is_answered steps a ≡ some_of (answers a steps)
    by [] is = rw is refl
    by (x ∷ xs) is = rw is refl

pub answered_more : (steps : List Moment) (m : Moment) (a : Asked) → is_answered (steps ++ m ∷ []) a ≡ (is_answered steps a || is_heard m.told m.outs a)
answered_more steps m a =
    answered_some (steps ++ m ∷ []) a
    ∙ ap some_of (flat_map-append (answers_in a) steps (m ∷ []) ∙ ap (λ (l : List Answer). answers a steps ++ l) (append-nil (answers_in a m)))
    ∙ some_append (answers a steps) (answers_in a m)
    ∙ ap (λ (b : Bool). b || some_of (answers_in a m)) (sym (answered_some steps a))
    ∙ ap (λ (b : Bool). is_answered steps a || b) (moment_one a m)
