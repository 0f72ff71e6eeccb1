-- What connections come to, one after the other.
use Rattle.std.proofs.Common.{◌≡◌, refl, sym, ap, ◌∙◌, subst, ℕ, ◌+◌, ◌*◌, List, [], ◌∷◌, ◌++◌, length-append, append_assoc, map, option_to_list, arith}
use Rattle.std.proofs.lemmas.List.{map-append}
use Rattle.usp_conf.specs.Values.{ConfValue}
use Rattle.usp_edge.specs.Calls.{Placed, turned_of}
use Rattle.usp_edge.specs.Serving.{Line, Met, Served, Whole}
use Rattle.usp_edge.specs.declared.end.End.{End}
use Rattle.usp_edge.specs.declared.end.End.TheVariants as ending
use Rattle.usp_edge.specs.declared.limits.TheConstants.{MAX_HEADS}
use Rattle.usp_edge.specs.declared.note.Note.{Note}
use Rattle.usp_edge.proofs.Doing.{did_both, did_none}
use Rattle.usp_edge.proofs.MostCalls.{broken_few, session_few, starved_few}
use Rattle.usp_edge.proofs.Showing.{session_told, wants_shown, writes_told}
use Rattle.usp_tool.specs.Edge.AtDoor.{AtDoor, Post, further, nobody}
use Rattle.usp_tool.specs.Edge.Sums.{Sum}
use Rattle.usp_tool.specs.Edge.Turns.{Show, turns_of}

turns_both : (x y : List Note) → turns_of (x ++ y) ≡ turns_of x ++ turns_of y
turns_both [] y = refl
turns_both (note ∷ x) y =
    ap (λ t. option_to_list note.call ++ t) (turns_both x y)
    ∙ sym (append_assoc (option_to_list note.call) (turns_of x) (turns_of y))

show_none : (most : ℕ) → Show most [] []
show_none most = record { turns = refl; few = omega arith }

show_both : (m k : ℕ) (c d : List Placed) (n o : List Note) → Show m c n → Show k d o → Show (m + k) (c ++ d) (n ++ o)
show_both m k c d n o first second = record {
  turns = turns_both n o
      ∙ (ap (λ t. t ++ turns_of o) first.turns
      ∙ (ap (λ t. map turned_of c ++ t) second.turns ∙ sym (map-append turned_of c d)));
  few = omega (arith, length-append c d, first.few, second.few);
}

module _ {N : Type 0} (gains : N → N → List Placed → Type 0) (conf : ConfValue) where
  sum_whole : (line : Line) (old new : Met N) (ends : End) → Whole gains conf line old new ends
      → Sum gains MAX_HEADS old new
  sum_whole line old new ends whole = record {
    moments = whole.progress.moments;
    calls = whole.progress.calls;
    finds = whole.progress.finds;
    notes = whole.progress.notes;
    did = whole.did;
    show = record {
      turns = sym (session_told conf whole.bytes whole.stop whole.progress ends whole.session).0;
      few = session_few conf whole.bytes whole.stop whole.progress ends whole.session;
    };
  }

  -- what serving a connection did in all, whatever its end
  pub sum_served : (line : Line) (old new : Met N) (ends : End) → Served gains conf line old new ends
      → Sum gains MAX_HEADS old new
  sum_served line old new ending.WriteFault served = record {
    moments = served.progress.moments;
    calls = served.progress.calls;
    finds = served.progress.finds;
    notes = served.progress.notes;
    did = served.did;
    show = record {
      turns = sym (writes_told conf served.bytes served.stop served.progress served.text served.writes).0;
      few = broken_few conf served.bytes served.stop served.progress served.text served.writes;
    };
  }
  sum_served line old new ending.NoMemory served = record {
    moments = served.progress.moments;
    calls = served.progress.calls;
    finds = served.progress.finds;
    notes = served.progress.notes;
    did = served.did;
    show = record {
      turns = sym (wants_shown conf served.bytes served.progress served.wants);
      few = starved_few conf served.bytes served.progress served.wants;
    };
  }
  sum_served line old new ending.Closed served = sum_whole line old new ending.Closed served
  sum_served line old new ending.CutShort served = sum_whole line old new ending.CutShort served
  sum_served line old new ending.BadHead served = sum_whole line old new ending.BadHead served
  sum_served line old new ending.HeadTooLong served = sum_whole line old new ending.HeadTooLong served
  sum_served line old new ending.ManyHeaders served = sum_whole line old new ending.ManyHeaders served
  sum_served line old new ending.ReadFault served = sum_whole line old new ending.ReadFault served
  sum_served line old new ending.Body served = sum_whole line old new ending.Body served
  sum_served line old new ending.Enough served = sum_whole line old new ending.Enough served

  sum_none : (old : Met N) → gains old.supplies.nonces old.supplies.nonces [] → Sum gains (MAX_HEADS * 0) old old
  sum_none old free = record {
    moments = [];
    calls = [];
    finds = [];
    notes = [];
    did = did_none gains old free;
    show = show_none (MAX_HEADS * 0);
  }

  module _ (free : (a : N) → gains a a [])
      (both : (a b c : N) (x y : List Placed) → gains a b x → gains b c y → gains a c (x ++ y)) where
    sum_both : (m k : ℕ) (old mid new : Met N) → Sum gains m old mid → Sum gains k mid new → Sum gains (m + k) old new
    sum_both m k old mid new first second = record {
      moments = first.moments ++ second.moments;
      calls = first.calls ++ second.calls;
      finds = first.finds ++ second.finds;
      notes = first.notes ++ second.notes;
      did = did_both gains both old mid new first.moments second.moments first.calls second.calls first.finds
          second.finds first.notes second.notes first.did second.did;
      show = show_both m k first.calls second.calls first.notes second.notes first.show second.show;
    }

    -- all that the work at a door did
    pub sum_at_door : (count : ℕ) (old new : Post N) → AtDoor gains conf count old new
        → Sum gains (MAX_HEADS * count) old.met new.met
    sum_at_door count old new (nobody old1 new1 is) =
        subst (λ (p : Post N). Sum gains (MAX_HEADS * 0) old.met p.met) (sym is)
        (sum_none old.met (free old.met.supplies.nonces))
    sum_at_door count old new (further before old1 mid new1 so visited) =
        subst (λ n. Sum gains n old.met new.met)
        (let is : 100 * before + 100 ≡ 100 * (before + 1) = omega arith in is)
        (sum_both (MAX_HEADS * before) MAX_HEADS old.met mid.met new.met (sum_at_door before old mid so)
        (sum_served visited.line mid.met new.met visited.ends visited.served))
