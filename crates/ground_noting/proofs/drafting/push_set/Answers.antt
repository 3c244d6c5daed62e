use Rattle.std.proofs.Common.{◌≡◌, true, false, subst}
use Rattle.std.specs.Prelude.{MatchOption}
use Rattle.search_values.specs.Tables.{both_signs, once}
use Rattle.nogood_store.specs.Stored.{HasNoAtomTwice}
use Rattle.ground_noting.proofs.DraftLemmas.{pushed_drafts}
use Rattle.ground_noting.proofs.drafting.push_set.Goals as goal
use Rattle.ground_noting.proofs.drafting.push_set.Goals.{in-Ok, in-Err}

pub returns-after-push-clause-drafts : goal.returns-after-push-clause-drafts
returns-after-push-clause-drafts c =
    let kept = subst (λ r. MatchOption r (both_signs c.args.lits.now ≡ true)
    (λ v. (both_signs c.args.lits.now ≡ false) ×
    (v.items ≡ once c.args.lits.now) × HasNoAtomTwice v.items)) c.in-Some.is c.in_ok-each_once.ensures in
    elim c.match-push.branch [
      | in-Ok w ↦ rw w.result-is
          (pushed_drafts c.args.head c.args.lits.now c.args.drafts.now.items
          (record { lits = c.in-Some.lits; head = c.place_of_head.result }) c.push.new.self.items
          (record {
            starts = c.requires;
            free = kept.0;
            each_once = kept.1;
            no_atom_twice = kept.2;
            place = c.place_of_head.ensures;
            pushed = w.in-Ok.ensures.items;
          }))
      | in-Err w ↦ rw w.result-is tt
    ]
