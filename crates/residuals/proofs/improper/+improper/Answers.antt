use Rattle.std.proofs.Common.{rules}
use Rattle.residuals.proofs.Misfits.{improper_is}
use Rattle.residuals.proofs.improper.+improper.Goals as goal

pub returns-then-not-complementary-clause-place : goal.returns-then-not-complementary-clause-place
returns-then-not-complementary-clause-place t c = search (rules, improper_is c.of.ensures.node)

pub returns-in-Some-clause-place : goal.returns-in-Some-clause-place
returns-in-Some-clause-place t c = search (rules, improper_is c.of.ensures.node)

pub returns-in_err-improper-in-Both-clause-place : goal.returns-in_err-improper-in-Both-clause-place
returns-in_err-improper-in-Both-clause-place t c = search (rules, improper_is c.of.ensures.node)

pub returns-then-name_of-name-clause-place : goal.returns-then-name_of-name-clause-place
returns-then-name_of-name-clause-place t c = search (rules, improper_is c.of.ensures.node)

pub returns-in_err-improper-in-Under-clause-place : goal.returns-in_err-improper-in-Under-clause-place
returns-in_err-improper-in-Under-clause-place t c = search (rules, improper_is c.of.ensures.node)

pub returns-in_err-improper-in-Left-clause-place : goal.returns-in_err-improper-in-Left-clause-place
returns-in_err-improper-in-Left-clause-place t c = search (rules, improper_is c.of.ensures.node)

pub returns-in-Act-clause-place : goal.returns-in-Act-clause-place
returns-in-Act-clause-place t c = search (rules, improper_is c.of.ensures.node)

pub returns-in_ok-improper-in-Both-clause-place : goal.returns-in_ok-improper-in-Both-clause-place
returns-in_ok-improper-in-Both-clause-place t c = search (rules, improper_is c.of.ensures.node)

pub returns-in_ok-improper-in-Under-clause-place : goal.returns-in_ok-improper-in-Under-clause-place
returns-in_ok-improper-in-Under-clause-place t c = search (rules, improper_is c.of.ensures.node)

pub returns-in_ok-improper-in-Left-clause-place : goal.returns-in_ok-improper-in-Left-clause-place
returns-in_ok-improper-in-Left-clause-place t c = search (rules, improper_is c.of.ensures.node)
