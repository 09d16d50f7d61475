use Rattle.leasecheck.specs.Idle.{obstacle_words}
use Rattle.leasecheck.proofs.idle.push_obstacle.Goals as goal

pub returns-in-NoClient : goal.returns-in-NoClient
unfolding obstacle_words
returns-in-NoClient c = rw c.in-NoClient.is c.push_about.ensures

pub returns-in-Refused : goal.returns-in-Refused
unfolding obstacle_words
returns-in-Refused c = rw c.in-Refused.is c.push_refused.ensures

pub returns-in-NothingUnsent : goal.returns-in-NothingUnsent
unfolding obstacle_words
returns-in-NothingUnsent c = rw c.in-NothingUnsent.is c.push_about_both.ensures

pub returns-in-NoRequest : goal.returns-in-NoRequest
unfolding obstacle_words
returns-in-NoRequest c = rw c.in-NoRequest.is c.push_about-in-NoRequest.ensures

pub returns-in-NoReply : goal.returns-in-NoReply
unfolding obstacle_words
returns-in-NoReply c = rw c.in-NoReply.is c.push_about-in-NoReply.ensures

pub returns-in-NotConnected : goal.returns-in-NotConnected
unfolding obstacle_words
returns-in-NotConnected c = rw c.in-NotConnected.is c.push_about-in-NotConnected.ensures

pub returns-in-Connected : goal.returns-in-Connected
unfolding obstacle_words
returns-in-Connected c = rw c.in-Connected.is c.push_about-in-Connected.ensures

pub returns-in-Unnoticed : goal.returns-in-Unnoticed
unfolding obstacle_words
returns-in-Unnoticed c = rw c.in-Unnoticed.is c.push_about-in-Unnoticed.ensures

pub returns-in-NoFile : goal.returns-in-NoFile
unfolding obstacle_words
returns-in-NoFile c = rw c.in-NoFile.is c.push_about-in-NoFile.ensures

pub returns-in-NoBreak : goal.returns-in-NoBreak
unfolding obstacle_words
returns-in-NoBreak c = rw c.in-NoBreak.is c.push_about_both-in-NoBreak.ensures

pub returns-in-NoOpen : goal.returns-in-NoOpen
unfolding obstacle_words
returns-in-NoOpen c = rw c.in-NoOpen.is c.push_about_both-in-NoOpen.ensures
