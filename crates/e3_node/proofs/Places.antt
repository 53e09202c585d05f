-- A claim and its entry give no place back, nor do marks of others.
use Rattle.std.proofs.Common.{◌≡◌, ◌≤◌, ◌++◌, ◌∷◌, [], ℕ, true, false, List, length, refl, sym, ap, ◌∙◌, append-nil, append_assoc}
use Rattle.e3_laws.specs.local.Others.{numbered_on}
use Rattle.e3_node.specs.Places.{HasGivenNoneBack, OwnGiveNoneBack}
use Rattle.e3_turn.specs.Passes.{GrewByOthers, Owns, seen_by}
use Rattle.e3_types.specs.declared.entries.Act.{Act}
use Rattle.e3_types.specs.declared.entries.Act.TheVariants.{Step, Fall, Rise, RiseFall, Miss, Cut, Drop, Parts, Line}
use Rattle.e3_types.specs.declared.entries.Entry.{Entry}
use Rattle.e3_wire.specs.Claims.{APass}
use Rattle.e3_wire.specs.Marks.{AreForeign, belongs, entries_of}
use Rattle.e3_wire.specs.declared.marks.Mark.{Mark}
use Rattle.e3_wire.specs.declared.marks.Mark.TheVariants as mark
use Rattle.e3_wire.proofs.Staying.{are_others_marks}
use Rattle.e3_world.specs.Items.{inputs_of}
use Rattle.e3_node.proofs.Waiting.{Behind}

pub own_append : (o : ℕ) (xs ys : List Mark) → OwnGiveNoneBack o xs → OwnGiveNoneBack o ys → OwnGiveNoneBack o (xs ++ ys)
own_append o [] ys first second = second
own_append o (m ∷ xs) ys first second = (first.0, own_append o xs ys first.1 second)

pub own_foreign : (o : ℕ) (more : List Mark) → AreForeign o more → OwnGiveNoneBack o more
own_foreign o [] foreign = tt
own_foreign o (m ∷ more) foreign =
    (λ own. absurd (let both : true ≡ false = sym own ∙ foreign.0 in cc), own_foreign o more foreign.1)

-- the numbers of its packets change nothing of what an act takes
numbered_inputs : (now : List Entry) (o : ℕ) (act : Act) → inputs_of (numbered_on now (record { owner = o; act = act })).act ≡ inputs_of act
numbered_inputs now o (Step i records outs events) = refl
numbered_inputs now o (Fall inputs records why) = refl
numbered_inputs now o (Rise kept inc) = refl
numbered_inputs now o (RiseFall kept inc why) = refl
numbered_inputs now o Miss = refl
numbered_inputs now o Cut = refl
numbered_inputs now o (Drop packet) = refl
numbered_inputs now o (Parts parts) = refl
numbered_inputs now o (Line number) = refl

-- a claim, and an entry of one input at most
pub entered_back : (site outs : ℕ) (seen claimed between marks : List Mark) (e : Entry) → Behind site outs seen claimed between marks e →
    length (inputs_of e.act) ≤ 1 → HasGivenNoneBack site seen marks
entered_back site outs seen claimed between marks e b few = (
  (front ++ b.second) ++ last,
  b.marks_is ∙ ap (λ (l : List Mark). l ++ last)
      (b.between_is ∙ ap (λ (l : List Mark). l ++ b.second) (b.claimed_is ∙ append_assoc seen b.first (mark.Place site outs ∷ []))
      ∙ append_assoc seen front b.second)
      ∙ append_assoc seen (front ++ b.second) last,
  own_append site (front ++ b.second) last
      (own_append site front b.second (own_append site b.first (mark.Place site outs ∷ []) (own_foreign site b.first b.firsts) (λ own. tt, tt))
      (own_foreign site b.second b.seconds))
      (λ own. rw (numbered_inputs (entries_of between) e.owner e.act) few, tt),
)
  where
    front : List Mark
    front = b.first ++ mark.Place site outs ∷ []

    last : List Mark
    last = mark.Entered (numbered_on (entries_of between) e) ∷ []

-- a call that only looked, or that was refused its claim
pub looked_back : (p q : APass) (site : ℕ) (between : List Mark) → Owns p site → GrewByOthers belongs p between → seen_by q ≡ between →
    HasGivenNoneBack site (seen_by p) (seen_by q)
looked_back p q site between owns grew is =
    let one = are_others_marks p site between owns grew in (one.0, is ∙ one.1, own_foreign site one.0 one.2)

-- nothing was seen
pub still_back : (site : ℕ) (seen : List Mark) → HasGivenNoneBack site seen seen
still_back site seen = ([], sym (append-nil seen), tt)
