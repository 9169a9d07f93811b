use Rattle.std.proofs.Common.{◌<◌, sym, ap, ◌∙◌, arith, rules}
use Rattle.std.proofs.lemmas.List.Elements.{All-from_get_or}
use Rattle.frame.specs.Reading.{split_answer}
use Rattle.frame.proofs.Format.{reads_frames, places_malformed, places_kinds, places_bad_setups, reads_once, places_bodies, places_events, rules_kept}
use Rattle.frame.proofs.Places.{places_parts}
use Rattle.frame.proofs.Calls.{within_told}
use Rattle.frame.proofs.frame.Frame.read.Goals as goal

pub returns-then-frame-gt-FRAME_LIMIT : goal.returns-then-frame-gt-FRAME_LIMIT
returns-then-frame-gt-FRAME_LIMIT c = record {
  answer = search rules;
  rules = tt;
  bytes = All-from_get_or (λ b. b < 256) c.args.frame.now 0 (λ i _. omega (arith, c.type_inv.frame i));
  frames = reads_frames;
  malformed = places_malformed;
  kinds = places_kinds;
  setups = places_bad_setups;
  once = reads_once;
  parts = places_parts;
  bodies = places_bodies;
  events = places_events;
}

pub returns-in_default : goal.returns-in_default
returns-in_default c = record {
  answer = sym (within_told c.args.frame.now (omega arith) ∙ sym (ap split_answer c.in_default.ensures));
  rules = tt;
  bytes = All-from_get_or (λ b. b < 256) c.args.frame.now 0 (λ i _. omega (arith, c.type_inv.frame i));
  frames = reads_frames;
  malformed = places_malformed;
  kinds = places_kinds;
  setups = places_bad_setups;
  once = reads_once;
  parts = places_parts;
  bodies = places_bodies;
  events = places_events;
}

pub returns : goal.returns
returns c =
    let told =
    c.«read_call».ensures
    ∙ (ap split_answer c.in-Some.ensures ∙ sym (within_told c.args.frame.now (omega arith))) in
    record {
      answer = told;
      rules = rules_kept _ c.args.frame.now (λ i. omega (arith, c.type_inv.frame i)) told;
      bytes = All-from_get_or (λ b. b < 256) c.args.frame.now 0 (λ i _. omega (arith, c.type_inv.frame i));
      frames = reads_frames;
      malformed = places_malformed;
      kinds = places_kinds;
      setups = places_bad_setups;
      once = reads_once;
      parts = places_parts;
      bodies = places_bodies;
      events = places_events;
    }
