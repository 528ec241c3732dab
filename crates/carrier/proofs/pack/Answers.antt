use Rattle.carrier.proofs.Restored.{lawful_packs, lawful_restores, plain_restores}
use Rattle.carrier.proofs.pack.Goals as goal

pub returns : goal.returns
returns c =
    let b = c.args.bare.now in
    let old = c.args.out.now in
    let new = c.pack_records.new.out in
    let r = c.pack_records.result in
    let told = c.pack_records.ensures.answer in
    let left = c.pack_records.ensures.buffer in
    record {
      answer = told;
      buffer = left;
      packs = lawful_packs b old r told;
      restores = lawful_restores b old new r told left;
      restores_plain = plain_restores b old new r told left;
    }
