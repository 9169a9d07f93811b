use Rattle.std.proofs.Common.{[], ◌∷◌, ◌++◌, take, ap, ◌∙◌, arith}
use Rattle.server.specs.Answer.{model_of}
use Rattle.server.specs.Session.{line_limit}
use Rattle.server.proofs.Inputs.{going, kept_on, ends_length, ends_buffer, ends_model, ends_line, stays_line}
use Rattle.server.proofs.session.Session.take.Goals as goal

pub returns-then-byte-ne10 : goal.returns-then-byte-ne10
returns-then-byte-ne10 c =
    let m = model_of c.args.self.now.server in
    let out = c.args.out.now in
    let b = c.args.byte in
    record {
      answer = λ l e. (going m out l b c.if-byte-ne10.true).0;
      buffer = λ l e. (going m out l b c.if-byte-ne10.true).1;
      model = λ l e. (going m out l b c.if-byte-ne10.true).2;
      line = λ l e. c.push.ensures ∙ ap (λ t. take line_limit (t ++ b ∷ [])) e ∙ kept_on l b ∙ ap (take line_limit) (going m out l b c.if-byte-ne10.true).3;
      bound = omega arith;
    }

pub returns-in_err-n-clause-answer : goal.returns-in_err-n-clause-answer
returns-in_err-n-clause-answer c = λ l e. c.from_residual.ensures ∙ c.in_err-n.ensures.answer ∙ ends_length (model_of c.args.self.now.server) c.args.out.now l c.args.byte c.if-byte-ne10.false _ (c.items.ensures.value ∙ e)

pub returns-in_err-n-clause-buffer : goal.returns-in_err-n-clause-buffer
returns-in_err-n-clause-buffer c = λ l e. c.in_err-n.ensures.buffer ∙ ends_buffer (model_of c.args.self.now.server) c.args.out.now l c.args.byte c.if-byte-ne10.false _ (c.items.ensures.value ∙ e)

pub returns-in_err-n-clause-model : goal.returns-in_err-n-clause-model
returns-in_err-n-clause-model c = λ l e. c.in_err-n.ensures.model ∙ ends_model (model_of c.args.self.now.server) c.args.out.now l c.args.byte c.if-byte-ne10.false _ (c.items.ensures.value ∙ e)

pub returns-in_err-n-clause-line : goal.returns-in_err-n-clause-line
returns-in_err-n-clause-line c = λ l e. e ∙ stays_line (model_of c.args.self.now.server) c.args.out.now l c.args.byte c.if-byte-ne10.false _ (c.items.ensures.value ∙ e) c.in_err-n.ensures.answer

pub returns : goal.returns
returns c =
    let m = model_of c.args.self.now.server in
    let out = c.args.out.now in
    let b = c.args.byte in
    let said = c.in_ok-n.ensures in
    record {
      answer = λ l e. said.answer ∙ ends_length m out l b c.if-byte-ne10.false _ (c.items.ensures.value ∙ e);
      buffer = λ l e. said.buffer ∙ ends_buffer m out l b c.if-byte-ne10.false _ (c.items.ensures.value ∙ e);
      model = λ l e. said.model ∙ ends_model m out l b c.if-byte-ne10.false _ (c.items.ensures.value ∙ e);
      line = λ l e. c.clear.ensures ∙ ends_line m out l b c.if-byte-ne10.false _ (c.items.ensures.value ∙ e) c.in_ok-n.n said.answer;
      bound = said.bound;
    }
