use Rattle.e3_codec.proofs.Apart.{free, one_list}
use Rattle.e3_codec.proofs.Records.{never_bad, one_place}
use Rattle.e3_codec.proofs.laws.each_list_has_one_spelling.Goals as goal

pub returns-clause-free : goal.returns-clause-free
returns-clause-free c = free

pub returns-clause-one : goal.returns-clause-one
returns-clause-one c = one_list

pub returns-clause-read : goal.returns-clause-read
returns-clause-read c = never_bad

pub returns-clause-place : goal.returns-clause-place
returns-clause-place c = one_place
