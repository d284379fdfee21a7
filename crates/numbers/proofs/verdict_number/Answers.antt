use Rattle.rows.proofs.Kit.{◌≤◌, sym, arith, get_or-eq_default}
use Rattle.answers.specs.Numbers.{number_of, verdict_numbers}
use Rattle.numbers.proofs.verdict_number.Goals as goal

pub returns-in-0 : goal.returns-in-0
unfolding number_of
returns-in-0 c = rw c.in-0.is

pub returns-in-1 : goal.returns-in-1
unfolding number_of
returns-in-1 c = rw c.in-1.is

pub returns-in-2 : goal.returns-in-2
unfolding number_of
returns-in-2 c = rw c.in-2.is

pub returns-in-3 : goal.returns-in-3
unfolding number_of
returns-in-3 c = rw c.in-3.is

pub returns-in-4 : goal.returns-in-4
unfolding number_of
returns-in-4 c = rw c.in-4.is

pub returns-in-5 : goal.returns-in-5
unfolding number_of
returns-in-5 c = rw c.in-5.is

pub returns-in_default : goal.returns-in_default
unfolding number_of
returns-in_default c = let p : 6 ≤ c.args.which = omega arith in sym (get_or-eq_default (verdict_numbers c.args.v) 0 {n = c.args.which} p)
