use Rattle.std.proofs.Common.{◌≤◌, length, sym, refl, ap, ◌∙◌, arith}
use Rattle.byte_strings.specs.Buffer.{over}
use Rattle.server.specs.Text.{text_limit, told_line}
use Rattle.server.specs.Answer.{model_of, line_reply}
use Rattle.server.proofs.Replies.{told_length, told_model, told_buffer, told_short}
use Rattle.server.proofs.server.Server.answer.Goals as goal

pub returns-in-Ok-clause-buffer : goal.returns-in-Ok-clause-buffer
returns-in-Ok-clause-buffer c =
    let said = c.in-Ok.ensures.answer in
    told_buffer (line_reply (model_of c.args.self.now) c.args.line.now) c.args.out.now (c.in_ok-out.ensures.variant.0 refl) c.reply.new.out c.in_ok-out.out.now c.in_ok-out.ensures.cases.same (omega (arith, said.0, said.2)) said.1

pub returns-in-Err-clause-answer : goal.returns-in-Err-clause-answer
returns-in-Err-clause-answer c =
    told_length (line_reply (model_of c.args.self.now) c.args.line.now) c.args.out.now (c.in_ok-out.ensures.variant.0 refl) c.refuse.result (c.refuse.ensures.answer ∙ sym (ap length c.in-Err.ensures.answer.0))

pub returns-in-Err-clause-buffer : goal.returns-in-Err-clause-buffer
returns-in-Err-clause-buffer c =
    let q = line_reply (model_of c.args.self.now) c.args.line.now in
    let said = c.in-Err.ensures.answer in
    let short : length q.text ≤ text_limit = rw said.0 (told_short c.in-Err.fault) in
    let wrote = c.refuse.ensures.buffer ∙ ap (over (told_line c.in-Err.fault)) said.1 ∙ sym (ap (λ w. over w c.in_ok-out.out.now) said.0) in
    told_buffer q c.args.out.now (c.in_ok-out.ensures.variant.0 refl) c.refuse.new.out c.in_ok-out.out.now c.in_ok-out.ensures.cases.same short wrote

pub returns-in-Err-clause-model : goal.returns-in-Err-clause-model
returns-in-Err-clause-model c =
    told_model (line_reply (model_of c.args.self.now) c.args.line.now) c.args.out.now (c.in_ok-out.ensures.variant.0 refl) _ _ c.in-Err.ensures.model
