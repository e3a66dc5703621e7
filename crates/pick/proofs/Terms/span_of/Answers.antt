use Rattle.pick.proofs.Spanning.{act_ended, together_ended, apart_ended}
use Rattle.pick.proofs.Terms.span_of.Goals as goal

pub returns-in-Act : goal.returns-in-Act
returns-in-Act c = act_ended c.in-Act.is

pub returns-in-Xor : goal.returns-in-Xor
returns-in-Xor c = apart_ended c.in-Xor.is c.walk.ensures

pub returns-in-Seq : goal.returns-in-Seq
returns-in-Seq c = together_ended c.in-Seq.is c.walk-in-Seq.ensures
