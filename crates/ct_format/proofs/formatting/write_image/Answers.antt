use Rattle.std.proofs.Common.{inl, inr}
use Rattle.ct_pm.proofs.Made.{makes_then}
use Rattle.ct_format.proofs.Magic.{magic_made}
use Rattle.ct_format.proofs.Moments.{magic_word, formatted, cleared_words, start_images, between_images, end_images, stops_fenced, on_formatted, makes_zero, makes_out, start_reads, laid_reads, end_reads}
use Rattle.ct_format.proofs.formatting.write_image.Goals as goal

pub returns-in_err-put_magic-clause-made : goal.returns-in_err-put_magic-clause-made
returns-in_err-put_magic-clause-made g c = makes_zero 0 c.put_magic.ensures.made

pub returns-in_err-put_magic-clause-moments : goal.returns-in_err-put_magic-clause-moments
returns-in_err-put_magic-clause-moments g c =
    inl (record { steps = c.in_err-put_magic.ensures.unfenced; images = start_images c.args.pages c.requires.least c.requires.most (g.D.Pm.words c.args.dev.now) c.requires.size c.put_magic.ensures.images })

pub returns-in_err-lay_out-clause-made : goal.returns-in_err-lay_out-clause-made
returns-in_err-lay_out-clause-made g c = makes_out 0 c.put_magic.ensures.made c.lay_out.ensures.only.made

pub returns-in_err-lay_out-clause-moments : goal.returns-in_err-lay_out-clause-moments
returns-in_err-lay_out-clause-moments g c =
    let w = g.D.Pm.words c.args.dev.now in
    inr (stops_fenced c.in_ok-put_magic.ensures.fenced (start_images c.args.pages c.requires.least c.requires.most w c.requires.size c.put_magic.ensures.images)
    (between_images c.args.pages c.requires.least c.requires.most w c.requires.size (g.D.Pm.words c.put_magic.new.dev) c.in_ok-put_magic.ensures.words (g.met.D.Pm.replays c.put_magic.new.dev) c.in_ok-put_magic.ensures.settled c.lay_out.ensures.only))

pub returns-clause-made : goal.returns-clause-made
returns-clause-made g c = makes_then (makes_out 0 c.put_magic.ensures.made c.lay_out.ensures.only.made) (makes_zero magic_word c.put_magic-2.ensures.made)

pub returns-clause-formatted : goal.returns-clause-formatted
returns-clause-formatted g c =
    let w = g.D.Pm.words c.args.dev.now in
    let laid = g.D.Pm.words c.lay_out.new.dev in
    let clear = cleared_words c.args.pages c.requires.least c.requires.most w c.requires.size c.in_ok-put_magic.ensures.words c.lay_out.ensures.only in
    on_formatted c.put_magic-2.result c.args.pages c.args.inodes laid (g.D.Pm.words c.put_magic-2.new.dev) (formatted c.args.pages c.args.inodes laid c.in_ok-lay_out.ensures.words clear.0 c.requires.least) c.put_magic-2.ensures.words

pub returns-clause-moments : goal.returns-clause-moments
returns-clause-moments g c =
    let w = g.D.Pm.words c.args.dev.now in
    let laid = g.D.Pm.words c.lay_out.new.dev in
    let clear = cleared_words c.args.pages c.requires.least c.requires.most w c.requires.size c.in_ok-put_magic.ensures.words c.lay_out.ensures.only in
    inr (record {
      fenced = g.D.Pm.told c.put_magic.new.dev;
      laid = g.D.Pm.told c.lay_out.new.dev;
      unmark = c.in_ok-put_magic.ensures.fenced;
      before = start_images c.args.pages c.requires.least c.requires.most w c.requires.size c.put_magic.ensures.images;
      between = between_images c.args.pages c.requires.least c.requires.most w c.requires.size (g.D.Pm.words c.put_magic.new.dev) c.in_ok-put_magic.ensures.words (g.met.D.Pm.replays c.put_magic.new.dev) c.in_ok-put_magic.ensures.settled c.lay_out.ensures.only;
      mark = magic_made c.put_magic-2.result magic_word (g.D.Pm.told c.lay_out.new.dev) (g.D.Pm.told c.put_magic-2.new.dev) c.put_magic-2.ensures.fenced c.put_magic-2.ensures.unfenced;
      after = end_images c.args.pages c.requires.least c.requires.most c.args.inodes c.requires.two c.requires.few laid clear.0 clear.1 c.in_ok-lay_out.ensures.words c.put_magic-2.ensures.images;
    })

pub returns-in_err-put_magic-clause-reads : goal.returns-in_err-put_magic-clause-reads
returns-in_err-put_magic-clause-reads g c =
    start_reads c.args.pages c.requires.least c.requires.most (g.D.Pm.words c.args.dev.now) c.requires.size (g.D.Pm.words c.put_magic.new.dev) c.put_magic.ensures.either

pub returns-in_err-lay_out-clause-reads : goal.returns-in_err-lay_out-clause-reads
returns-in_err-lay_out-clause-reads g c =
    laid_reads c.args.pages c.requires.least c.requires.most (g.D.Pm.words c.args.dev.now) c.requires.size (g.D.Pm.words c.put_magic.new.dev) (g.D.Pm.words c.lay_out.new.dev) c.in_ok-put_magic.ensures.words c.lay_out.ensures.only.same

pub returns-clause-reads : goal.returns-clause-reads
returns-clause-reads g c =
    let w = g.D.Pm.words c.args.dev.now in
    let laid = g.D.Pm.words c.lay_out.new.dev in
    let clear = cleared_words c.args.pages c.requires.least c.requires.most w c.requires.size c.in_ok-put_magic.ensures.words c.lay_out.ensures.only in
    end_reads c.args.pages c.requires.least c.requires.most w c.requires.size c.args.inodes c.requires.two c.requires.few laid clear.0 clear.1 c.in_ok-lay_out.ensures.words (g.D.Pm.words c.put_magic-2.new.dev) c.put_magic-2.ensures.either
