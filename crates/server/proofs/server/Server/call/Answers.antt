use Rattle.std.proofs.Common.{rules, ◌≡◌, ◌-◌, take, ◌∷◌, sym, ap, arith}
use Rattle.std.proofs.lemmas.Grind.{common_steps}
use Rattle.frame.specs.Reading.{frame_view}
use Rattle.hexadecimal.specs.Line.{line}
use Rattle.server.specs.Text.{call_text}
use Rattle.server.specs.Answer.{model_of, system_of, reworking_of, frame_reply}
use Rattle.bench.proofs.Silent.{swap_is_silent}
use Rattle.server.proofs.Replies.{sent_back, step_sent_back, print_sent_back, answer_told, written}
use Rattle.server.proofs.server.Server.call.Goals as goal
use Rattle.server.proofs.server.Server.call.Goals.{in_default-Setup+in_ok-set_up-in_default-Setup, in-Some-Blank-Open+in_ok-open_sheet-in-Some-Blank-Open, in-Some-Open-Add+in_ok-n-in-Some-Open-Add, in-Some-Open-Withdraw+in_ok-n-in-Some-Open-Withdraw, in-Some-Open-Look+in_ok-n-in-Some-Open-Look, in-Some-Open-Swap+in_ok-swap-in-Some-Open-Swap, in-Some-Open-Join+in_ok-len-in-Some-Open-Join, in-Some-Open-Release+in_ok-release-in-Some-Open-Release, in-Some-Released-Reopen+in_ok-reopen-in-Some-Released-Reopen}

pub returns-in_err-open_sheet-in-Some-Blank-Open : goal.returns-in_err-open_sheet-in-Some-Blank-Open
returns-in_err-open_sheet-in-Some-Blank-Open c =
    record {
      answer = rw c.in-Some-Blank-Open.is-1 (sent_back _ _ _ _ c.in_err-open_sheet-in-Some-Blank-Open.ensures.answer c.from_residual-in_err-open_sheet-in-Some-Blank-Open.ensures.1);
      model = let pages = c.in_err-open_sheet-in-Some-Blank-Open.ensures.pages in rw c.in-Some-Blank-Open.is-1 (search rules);
    }

pub returns-in_err-n-in-Some-Open-Add-clause-answer : goal.returns-in_err-n-in-Some-Open-Add-clause-answer
returns-in_err-n-in-Some-Open-Add-clause-answer c = rw c.in-Some-Open-Add.is-1 (step_sent_back _ _ _ _ c.in_err-n-in-Some-Open-Add.ensures.answer c.from_residual-in_err-n-in-Some-Open-Add.ensures.1)

pub returns-in_err-swap-in-Some-Open-Swap-clause-answer : goal.returns-in_err-swap-in-Some-Open-Swap-clause-answer
returns-in_err-swap-in-Some-Open-Swap-clause-answer c = rw c.in-Some-Open-Swap.is-1 (sent_back _ _ _ _ c.in_err-swap-in-Some-Open-Swap.ensures.answer c.from_residual-in_err-swap-in-Some-Open-Swap.ensures.1)

pub returns-in_err-n-in-Some-Open-Withdraw-clause-answer : goal.returns-in_err-n-in-Some-Open-Withdraw-clause-answer
returns-in_err-n-in-Some-Open-Withdraw-clause-answer c = rw c.in-Some-Open-Withdraw.is-1 (step_sent_back _ _ _ _ c.in_err-n-in-Some-Open-Withdraw.ensures.answer c.from_residual-in_err-n-in-Some-Open-Withdraw.ensures.1)

pub returns-in_err-n-in-Some-Open-Look-clause-answer : goal.returns-in_err-n-in-Some-Open-Look-clause-answer
returns-in_err-n-in-Some-Open-Look-clause-answer c = rw c.in-Some-Open-Look.is-1 (step_sent_back _ _ _ _ c.in_err-n-in-Some-Open-Look.ensures.answer c.from_residual-in_err-n-in-Some-Open-Look.ensures.1)

pub returns-in_err-release-in-Some-Open-Release-clause-answer : goal.returns-in_err-release-in-Some-Open-Release-clause-answer
returns-in_err-release-in-Some-Open-Release-clause-answer c = rw c.in-Some-Open-Release.is-1 (sent_back _ _ _ _ c.in_err-release-in-Some-Open-Release.ensures.answer c.from_residual-in_err-release-in-Some-Open-Release.ensures.1)

pub returns-in_err-reopen-in-Some-Released-Reopen-clause-answer : goal.returns-in_err-reopen-in-Some-Released-Reopen-clause-answer
returns-in_err-reopen-in-Some-Released-Reopen-clause-answer c = rw c.in-Some-Released-Reopen.is-1 (sent_back _ _ _ _ c.in_err-reopen-in-Some-Released-Reopen.ensures.answer c.from_residual-in_err-reopen-in-Some-Released-Reopen.ensures.1)

pub returns-in_err-print-in-Some-Released-Print-clause-answer : goal.returns-in_err-print-in-Some-Released-Print-clause-answer
returns-in_err-print-in-Some-Released-Print-clause-answer c =
    let m = model_of c.args.self.now in
    rw c.in-Some-Released-Print.is-1 (print_sent_back (system_of m) m.pages c.in-Some-Released-Print.sheet _ _ _ _ c.told-out c.in_err-print-in-Some-Released-Print.ensures.answer c.in_err-print-in-Some-Released-Print.ensures.buffer c.from_residual-in_err-print-in-Some-Released-Print.ensures.1)

pub returns-clause-answer : goal.returns-clause-answer
returns-clause-answer c =
    let m = model_of c.args.self.now in
    let text : (frame_reply (model_of c.args.self.now) (frame_view c.args.frame.now)).text ≡ line (0 ∷ take (c.match-frame.n - 0) c.match-frame.end) =
    elim c.match-frame.branch [
      | in_default-Setup+in_ok-set_up-in_default-Setup w ↦ rw (w.in_default-Setup.is-1, w.n-is) (sym (ap (λ r. r.text) w.in_ok-set_up-in_default-Setup.ensures))
      | in-Some-Blank-Open+in_ok-open_sheet-in-Some-Blank-Open w ↦ rw (w.in-Some-Blank-Open.is-1, w.n-is) (search rules)
      | in-Some-Open-Add+in_ok-n-in-Some-Open-Add w ↦ rw (w.in-Some-Open-Add.is-1, w.n-is, w.end-is) (answer_told _ _ _ _ w.in_ok-n-in-Some-Open-Add.ensures.answer w.in_ok-n-in-Some-Open-Add.ensures.buffer)
      | in-Some-Open-Swap+in_ok-swap-in-Some-Open-Swap w ↦ rw (w.in-Some-Open-Swap.is-1, w.n-is) (ap call_text (swap_is_silent (system_of m) (reworking_of m) m.pages w.in-Some-Open-Swap.sheet w.in-Some-Open-Swap.place w.in_ok-swap-in-Some-Open-Swap.ensures.answer))
      | in-Some-Open-Join+in_ok-len-in-Some-Open-Join w ↦ rw (w.in-Some-Open-Join.is-1, w.n-is, w.end-is) (ap call_text (sym w.in_ok-len-in-Some-Open-Join.ensures.answer))
      | in-Some-Open-Withdraw+in_ok-n-in-Some-Open-Withdraw w ↦ rw (w.in-Some-Open-Withdraw.is-1, w.n-is, w.end-is) (answer_told _ _ _ _ w.in_ok-n-in-Some-Open-Withdraw.ensures.answer w.in_ok-n-in-Some-Open-Withdraw.ensures.buffer)
      | in-Some-Open-Look+in_ok-n-in-Some-Open-Look w ↦ rw (w.in-Some-Open-Look.is-1, w.n-is, w.end-is) (answer_told _ _ _ _ w.in_ok-n-in-Some-Open-Look.ensures.answer w.in_ok-n-in-Some-Open-Look.ensures.buffer)
      | in-Some-Open-Release+in_ok-release-in-Some-Open-Release w ↦ rw (w.in-Some-Open-Release.is-1, w.n-is) (grind (arith, common_steps))
      | in-Some-Released-Reopen+in_ok-reopen-in-Some-Released-Reopen w ↦ rw (w.in-Some-Released-Reopen.is-1, w.n-is) (grind (arith, common_steps))
    ] in
    written _ _ _ _ _ c.accept.array_long text c.accept.ensures.answer c.accept.ensures.buffer
