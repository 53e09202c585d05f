use Rattle.e3_log.proofs.Unique as laws
use Rattle.e3_log.proofs.law.regions_have_one_reading.Goals as goal

pub returns-clause-one : goal.returns-clause-one
returns-clause-one c = λ capacity g h bs cs bytes p q. laws.one_text capacity g h bs cs bytes p q

pub returns-clause-whole : goal.returns-clause-whole
returns-clause-whole c = λ capacity g bs bytes at p q. laws.not_damaged capacity g bs bytes at p q

pub returns-clause-one_damage : goal.returns-clause-one_damage
returns-clause-one_damage c = λ capacity bytes at place p q. laws.one_place capacity bytes at place p q

pub returns-clause-blank : goal.returns-clause-blank
returns-clause-blank c = λ capacity least. laws.blank_text capacity least
