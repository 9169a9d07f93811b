-- The program's system answers as the rules say: a design that exists is sound, so it follows them, and so do the
-- layers.
use Rattle.std.proofs.Common.{◌≡◌, ap, subst, ◌∙◌}
use Rattle.actions.specs.declared.names.Names.{Names}
use Rattle.actions.specs.declared.pairs.Pairs.{Pairs}
use Rattle.actions.specs.Contents.{names_of, pairs_of}
use Rattle.layers.specs.Mask.{mask_transitions, mask_independence}
use Rattle.layers.specs.Renaming.{renaming_transitions}
use Rattle.nets.specs.Contents.{events_of}
use Rattle.terms.specs.Contents.{terms_of}
use Rattle.terms.specs.Laws.Sound.{terms_sound}
use Rattle.systems.specs.declared.terms_or_net.TermsOrNet.{TermsOrNet}
use Rattle.systems.specs.declared.terms_or_net.TermsOrNet.TheVariants as variant
use Rattle.systems.specs.Design.{design_of, transitions_of, independence_of}
use Rattle.layers.specs.declared.masks.Mask.{Mask}
use Rattle.layers.specs.declared.renamings.Renaming.{Renaming}
use Rattle.systems.specs.Layered.{transitions_of_system, independence_of_system}
use Rattle.systems.specs.Possible.{Possible, EverySystem}
use Rattle.systems.proofs.DesignRules.{FollowsRules}
use Rattle.systems.proofs.TermsRules.{terms_follow}
use Rattle.systems.proofs.NetRules.{net_follows}
use Rattle.systems.proofs.LayeredRules.{layered_by_rules}
use Rattle.systems.proofs.Judged.{possible}

design_follows : (s : TermsOrNet) → FollowsRules (design_of s)
design_follows (variant.Terms t) = terms_follow (terms_of t) (terms_sound t.count t.bodies t.few t.sound)
design_follows (variant.Net n) = net_follows (events_of n) n.sound

pub possible_by_rules : (s : TermsOrNet) (pairs : Pairs) (names : Names) →
    Possible (design_of s) (pairs_of pairs) (names_of names)
    (mask_transitions (names_of names) (renaming_transitions (pairs_of pairs) (transitions_of (design_of s))))
    (mask_independence (names_of names) (renaming_transitions (pairs_of pairs) (transitions_of (design_of s)))
    (independence_of (design_of s)))
possible_by_rules s pairs names =
    possible (design_of s) (pairs_of pairs) (names_of names) _ _
    (layered_by_rules (design_of s) (pairs_of pairs) (names_of names) pairs.sound names.sound (design_follows s))

pub every_system : EverySystem
every_system m = possible_by_rules m.system.system m.system.pairs m.names

-- so of a system with these parts
pub possible_with : (m : Mask (Renaming TermsOrNet)) (r : Renaming TermsOrNet) (s : TermsOrNet) (pairs : Pairs)
    (names : Names) →
    m.system ≡ r → m.names ≡ names → r.system ≡ s → r.pairs ≡ pairs →
    Possible (design_of s) (pairs_of pairs) (names_of names) (transitions_of_system m) (independence_of_system m)
possible_with m r s pairs names is_r is_names is_s is_pairs =
    let t = transitions_of_system m in
    let i = independence_of_system m in
    let same_s : m.system.system ≡ s = ap (λ r. r.system) is_r ∙ is_s in
    let same_pairs : m.system.pairs ≡ pairs = ap (λ r. r.pairs) is_r ∙ is_pairs in
    subst (λ s. Possible (design_of s) (pairs_of pairs) (names_of names) t i) same_s
    (subst (λ ps. Possible (design_of m.system.system) (pairs_of ps) (names_of names) t i) same_pairs
    (subst (λ ns. Possible (design_of m.system.system) (pairs_of m.system.pairs) (names_of ns) t i) is_names
    (every_system m)))
