use Rattle.std.proofs.Common.{◌≡◌, ◌⊎◌, inl, inr, ◌+◌, ◌++◌, [], ℕ, List, Option, subst, arith}
use Rattle.e3_node.specs.site_log.Bodies.{IsLogged, ReadsLeft}
use Rattle.e3_node.specs.site_log.Ends.{HasRoom, HasRoomUnlessShort, IsShortIf, size_of}
use Rattle.e3_node.specs.declared.site_log.writing.Short.{Short}
use Rattle.e3_node.proofs.site_log.Reasons.{empty_end, if_err, on_ok, reason_add}
use Rattle.e3_node.proofs.site_log.Writes.{left_later, logged_later}
use Rattle.e3_types.specs.declared.records.Record.{Record}
use Rattle.e3_node.proofs.site_log.writing.write.Goals as goal

-- without a turn the bound is that of before
pub returns-in-None-clause-left : goal.returns-in-None-clause-left
returns-in-None-clause-left g c = λ site most l was is orderly back.
    let new = c.add.new.log.disk in
    if_err {P = λ why. (bytes : List ℕ) → g.D.Disk.meaning.image new bytes → ReadsLeft site (g.D.Disk.meaning.meters new).capacity most l c.args.records.now c.add.new.logged why bytes}
    {Q = λ why. (bytes : List ℕ) → g.D.Disk.meaning.image new bytes → ReadsLeft site (g.D.Disk.meaning.meters new).capacity (most + 1) l c.args.records.now c.add.new.logged why bytes}
    c.add.result (λ why left bytes at. left_later site (g.D.Disk.meaning.meters new).capacity most (most + 1) c.add.new.logged l c.args.records.now why bytes (omega arith) (left bytes at))
    (c.add.ensures.left site most l was orderly back)

pub returns-then-fits-clause-left : goal.returns-then-fits-clause-left
returns-then-fits-clause-left g c = λ site most l was is orderly back.
    let new = c.add-then-fits.new.log.disk in
    if_err {P = λ why. (bytes : List ℕ) → g.D.Disk.meaning.image new bytes → ReadsLeft site (g.D.Disk.meaning.meters new).capacity most l c.args.records.now c.add-then-fits.new.logged why bytes}
    {Q = λ why. (bytes : List ℕ) → g.D.Disk.meaning.image new bytes → ReadsLeft site (g.D.Disk.meaning.meters new).capacity (most + 1) l c.args.records.now c.add-then-fits.new.logged why bytes}
    c.add-then-fits.result
    (λ why left bytes at. left_later site (g.D.Disk.meaning.meters new).capacity most (most + 1) c.add-then-fits.new.logged l c.args.records.now why bytes (omega arith) (left bytes at))
    (c.add-then-fits.ensures.left site most l was orderly back)

-- an empty log ends where its region begins
with_end : {A B : Type 0} (l : List Record) → A ⊎ (l ≡ []) → (l ≡ [] → B) → A ⊎ ((l ≡ []) × B)
with_end l (inl a) end = inl a
with_end l (inr none) end = inr (none, end none)

-- without a short log the frame had room, or the log was empty
pub returns-in-None-clause-reason : goal.returns-in-None-clause-reason
returns-in-None-clause-reason g c = λ site most l was is due.
    let log = c.args.log.now in
    let size = size_of c.args.records.now in
    let due_none : HasRoom g.D.Disk.meaning.meters log size ⊎ (l ≡ []) = subst (λ (s : Option Short). HasRoomUnlessShort g.D.Disk.meaning.meters log l s size) c.in-None.is due in
    reason_add g.D.Disk.meaning.meters l c.args.records.now log c.add.new.log c.args.body.now c.add.result c.requires.spelled
    (with_end l due_none (empty_end g.D.Disk.meaning site most l c.args.logged.now log was))
    (c.add.ensures.fault was.stands.sound) c.add.ensures.full

pub returns-else-fits-clause-reason : goal.returns-else-fits-clause-reason
returns-else-fits-clause-reason g c = λ site most l was is due.
    let P = IsShortIf site l in
    c.turn_and_add.ensures.reason site most l was (subst P c.in-Some.is is) tt

pub returns-in-None-clause-logged : goal.returns-in-None-clause-logged
returns-in-None-clause-logged g c = λ site most l was is orderly back.
    let m = g.D.Disk.meaning in
    let all = l ++ c.args.records.now in
    on_ok {A = IsLogged m site most all c.add.new.logged c.add.new.log} {B = IsLogged m site (most + 1) all c.add.new.logged c.add.new.log}
    c.add.result (λ has. logged_later m site most all (most + 1) c.add.new.logged c.add.new.log (omega arith) has) (c.add.ensures.logged site most l was orderly back)

pub returns-then-fits-clause-logged : goal.returns-then-fits-clause-logged
returns-then-fits-clause-logged g c = λ site most l was is orderly back.
    let m = g.D.Disk.meaning in
    let all = l ++ c.args.records.now in
    on_ok {A = IsLogged m site most all c.add-then-fits.new.logged c.add-then-fits.new.log} {B = IsLogged m site (most + 1) all c.add-then-fits.new.logged c.add-then-fits.new.log}
    c.add-then-fits.result (λ has. logged_later m site most all (most + 1) c.add-then-fits.new.logged c.add-then-fits.new.log (omega arith) has) (c.add-then-fits.ensures.logged site most l was orderly back)

pub returns-else-fits-clause-logged : goal.returns-else-fits-clause-logged
returns-else-fits-clause-logged g c = λ site most l was is orderly back.
    let P = IsShortIf site l in
    c.turn_and_add.ensures.logged site most l was (subst P c.in-Some.is is) orderly back

pub returns-else-fits-clause-left : goal.returns-else-fits-clause-left
returns-else-fits-clause-left g c = λ site most l was is orderly back.
    let P = IsShortIf site l in
    c.turn_and_add.ensures.left site most l was (subst P c.in-Some.is is) orderly back
